-- The operations so far are in the room.
use Rattle.library_calls.proofs.AttemptRooms.{FirstAreIn}
use Rattle.library_calls.proofs.attempt_calls.fill.Given as goal

abbrev pub invariant-loop-i : goal.invariant-loop-i
invariant-loop-i l = FirstAreIn l.operations l.fn.room l.room l.i
