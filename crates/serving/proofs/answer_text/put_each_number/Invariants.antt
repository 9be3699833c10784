-- The numbers so far are one text that was taken whole.
use Rattle.std.proofs.Common.{Ok, take}
use Rattle.std.specs.List.{flat_map}
use Rattle.outputs.specs.Out.{Puts}
use Rattle.serving.specs.AnswerText.{number_after_space}
use Rattle.serving.proofs.answer_text.put_each_number.Given as goal

abbrev pub invariant-loop-number : goal.invariant-loop-number
invariant-loop-number g l =
    Puts (g.W.Out.taken l.fn.out) (g.W.Out.taken l.out) (g.W.Out.fault l.out) (flat_map number_after_space (take l.number-index l.numbers)) (Ok tt)
