use Rattle.outputs.proofs.Turns.{Puts-append, Puts-exit}
use Rattle.need_text.proofs.numeric.write_range.Goals as goal

pub returns-in_err-write_numbers : goal.returns-in_err-write_numbers
returns-in_err-write_numbers g c = Puts-exit c.texts_in_turn.ensures.stopped _ c.in_err-write_numbers.ensures c.from_residual.ensures.1

pub returns : goal.returns
returns g c = Puts-append c.texts_in_turn.ensures.joined c.in_ok-write_numbers.ensures c.write_move.ensures
