use Rattle.undo_manager.proofs.Rerunning.{IsRunTo}
use Rattle.undo_manager.proofs.stepping.rerun.Given as goal

abbrev pub invariant-loop-read : goal.invariant-loop-read
invariant-loop-read l = IsRunTo l.table l.t l.position l.fn.log.items l.start l.log.items l.kept l.read l.state
