-- The lines so far are one text that was taken whole.
use Rattle.std.proofs.Common.{Ok, take}
use Rattle.std.specs.List.{flat_map}
use Rattle.outputs.specs.Out.{Puts}
use Rattle.serving.specs.AnswerText.{object_answer}
use Rattle.serving.proofs.answer_text.put_object_lines.Given as goal

abbrev pub invariant-loop-object : goal.invariant-loop-object
invariant-loop-object g l =
    Puts (g.W.Out.taken l.fn.out) (g.W.Out.taken l.out) (g.W.Out.fault l.out) (flat_map (object_answer l.tag) (take l.object-index l.objects)) (Ok tt)
