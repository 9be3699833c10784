use Rattle.outputs.proofs.Turns.{Puts-append, Puts-exit}
use Rattle.need_text.proofs.write.write_rows.Goals as goal

pub returns-in_err-write_letters : goal.returns-in_err-write_letters
returns-in_err-write_letters g c = Puts-exit c.texts_in_turn.ensures.stopped _ c.in_err-write_letters.ensures c.from_residual.ensures.1

pub returns : goal.returns
returns g c = Puts-append c.texts_in_turn.ensures.joined c.in_ok-write_letters.ensures c.write_notes.ensures
