use Rattle.outputs.proofs.Turns.{Puts-exit_at}
use Rattle.serving.specs.AnswerText.{number_after_space}
use Rattle.serving.proofs.answer_text.put_each_number.Goals as goal

pub returns-in_err-put_one_number : goal.returns-in_err-put_one_number
returns-in_err-put_one_number g c =
    Puts-exit_at c.items_in_turn.ensures number_after_space c.args.numbers.now c.loop-number.number-index _ c.loop-number-test.true c.loop-number.invariant c.in_err-put_one_number.ensures c.from_residual.ensures.1
