use Rattle.undo_manager.proofs.Folding.{IsUpTo}
use Rattle.undo_manager.proofs.stepping.committed_after.Given as goal

abbrev pub invariant-loop-one : goal.invariant-loop-one
invariant-loop-one l = IsUpTo l.table l.fn.base l.log l.one-index l.state
