-- The lines so far are one text that was taken whole.
use Rattle.std.proofs.Common.{Ok, take}
use Rattle.std.specs.List.{enumerate_from}
use Rattle.line_text.specs.Spelling.{text_of}
use Rattle.outputs.specs.Out.{Puts}
use Rattle.work_text.specs.Lines.{job_words}
use Rattle.work_text.proofs.jobs.write_outcomes.Given as goal

abbrev pub invariant-loop-i : goal.invariant-loop-i
invariant-loop-i g l =
    Puts (g.W.Out.taken l.fn.out) (g.W.Out.taken l.out) (g.W.Out.fault l.out) (text_of (job_words l.fn.w) (take l.i (enumerate_from 0 l.outcomes))) (Ok tt)
