use Rattle.outputs.proofs.Turns.{Puts-append, Puts-exit}
use Rattle.need_text.proofs.numeric.write_fault.Goals as goal

pub returns-in_err-put : goal.returns-in_err-put
returns-in_err-put g c = Puts-exit c.texts_in_turn.ensures.stopped _ c.in_err-put.ensures c.from_residual.ensures.1

pub returns-in_err-write_ops : goal.returns-in_err-write_ops
returns-in_err-write_ops g c = Puts-append c.texts_in_turn.ensures.joined c.in_ok-put.ensures (Puts-exit c.texts_in_turn.ensures.stopped _ c.in_err-write_ops.ensures c.from_residual-in_err-write_ops.ensures.1)

pub returns-in_err-write_numbers : goal.returns-in_err-write_numbers
returns-in_err-write_numbers g c = Puts-append c.texts_in_turn.ensures.joined c.in_ok-put.ensures (Puts-append c.texts_in_turn.ensures.joined c.in_ok-write_ops.ensures (Puts-exit c.texts_in_turn.ensures.stopped _ c.in_err-write_numbers.ensures c.from_residual-in_err-write_numbers.ensures.1))

pub returns : goal.returns
returns g c = Puts-append c.texts_in_turn.ensures.joined c.in_ok-put.ensures (Puts-append c.texts_in_turn.ensures.joined c.in_ok-write_ops.ensures (Puts-append c.texts_in_turn.ensures.joined c.in_ok-write_numbers.ensures c.put-2.ensures))
