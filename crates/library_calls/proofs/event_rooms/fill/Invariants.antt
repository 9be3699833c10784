use Rattle.library_calls.proofs.Rooms.{FilledTo}
use Rattle.library_calls.proofs.event_rooms.fill.Given as goal

abbrev pub invariant-loop-i : goal.invariant-loop-i
invariant-loop-i l = FilledTo l.events l.from l.i l.fn.room l.room
