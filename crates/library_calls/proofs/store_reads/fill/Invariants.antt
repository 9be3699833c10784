-- The states so far are in the room.
use Rattle.library_calls.proofs.Snapshots.{StatesUpTo}
use Rattle.library_calls.proofs.store_reads.fill.Given as goal

abbrev pub invariant-loop-x : goal.invariant-loop-x
invariant-loop-x l = StatesUpTo l.store l.fn.room l.room l.x
