-- How many of the first ones are at the object.
use Rattle.std.proofs.Common.{◌≡◌, length, take}
use Rattle.history_judge.specs.Replay.{ops_at}
use Rattle.history_judge.proofs.replay.count_at.Given as goal

abbrev pub invariant-loop-operation : goal.invariant-loop-operation
invariant-loop-operation l = l.count ≡ length (ops_at l.object (take l.operation-index l.operations))
