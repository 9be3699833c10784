-- Those below t were met.
use Rattle.script_run.proofs.Aborts.{AreMet}
use Rattle.script_run.proofs.last_aborts.abort_all.Given as goal

abbrev pub invariant-loop-t : goal.invariant-loop-t
invariant-loop-t g l = AreMet l.fn.store l.t (g.W.Out.taken l.fn.out) (g.W.Out.taken l.out) (g.W.Out.fault l.out) l.store
