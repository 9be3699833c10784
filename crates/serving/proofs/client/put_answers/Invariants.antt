-- The lines so far are one text that was taken whole.
use Rattle.std.proofs.Common.{Ok, take}
use Rattle.outputs.specs.Out.{Puts}
use Rattle.serving.specs.Told.{answers_text}
use Rattle.serving.proofs.client.put_answers.Given as goal

abbrev pub invariant-loop-answered : goal.invariant-loop-answered
invariant-loop-answered g l =
    Puts (g.W.Out.taken l.fn.out) (g.W.Out.taken l.out) (g.W.Out.fault l.out) (answers_text (take l.answered-index l.answers)) (Ok tt)
