use Rattle.outputs.proofs.Turns.{Puts-append, Puts-exit}
use Rattle.need_text.proofs.write.write_op.Goals as goal

pub returns-in_err-put : goal.returns-in_err-put
returns-in_err-put g c = Puts-exit c.texts_in_turn.ensures.stopped _ c.in_err-put.ensures c.from_residual.ensures.1

pub returns : goal.returns
returns g c = Puts-append c.texts_in_turn.ensures.joined c.in_ok-put.ensures c.write_numbered.ensures
