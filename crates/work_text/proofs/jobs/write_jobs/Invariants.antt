-- The lines so far are one text that was taken whole.
use Rattle.std.proofs.Common.{Ok, take}
use Rattle.std.specs.List.{flat_map, enumerate_from}
use Rattle.outputs.specs.Out.{Puts}
use Rattle.work_text.specs.Lines.{report_text}
use Rattle.work_text.proofs.jobs.write_jobs.Given as goal

abbrev pub invariant-loop-w : goal.invariant-loop-w
invariant-loop-w g l =
    Puts (g.W.Out.taken l.fn.out) (g.W.Out.taken l.out) (g.W.Out.fault l.out) (flat_map report_text (take l.w (enumerate_from 0 l.reports))) (Ok tt)
