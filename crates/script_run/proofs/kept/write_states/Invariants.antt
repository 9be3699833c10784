-- The lines of the objects below x are written.
use Rattle.script_run.proofs.KeptLines.{AreWritten}
use Rattle.script_run.proofs.kept.write_states.Given as goal

abbrev pub invariant-loop-x : goal.invariant-loop-x
invariant-loop-x g l = AreWritten l.store l.x (g.W.Out.taken l.fn.out) (g.W.Out.taken l.out) (g.W.Out.fault l.out)
