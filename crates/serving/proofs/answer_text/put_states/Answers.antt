use Rattle.outputs.proofs.Turns.{Puts-append}
use Rattle.serving.proofs.answer_text.put_states.Goals as goal

pub returns : goal.returns
returns g c = Puts-append c.texts_in_turn.ensures.joined c.in_ok-put_moment.ensures c.put_numbers.ensures
