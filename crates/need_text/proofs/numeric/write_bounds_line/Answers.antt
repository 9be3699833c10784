use Rattle.outputs.proofs.Turns.{Puts-append, Puts-exit}
use Rattle.need_text.proofs.numeric.write_bounds_line.Goals as goal

pub returns-in_err-put : goal.returns-in_err-put
returns-in_err-put g c = Puts-exit c.texts_in_turn.ensures.stopped _ c.in_err-put.ensures c.from_residual.ensures.1

pub returns-in_err-write_op_at : goal.returns-in_err-write_op_at
returns-in_err-write_op_at g c = Puts-append c.texts_in_turn.ensures.joined c.in_ok-put.ensures (Puts-exit c.texts_in_turn.ensures.stopped _ c.in_err-write_op_at.ensures c.from_residual-in_err-write_op_at.ensures.1)

pub returns-in_err-write_bounds_words : goal.returns-in_err-write_bounds_words
returns-in_err-write_bounds_words g c = Puts-append c.texts_in_turn.ensures.joined c.in_ok-put.ensures (Puts-append c.texts_in_turn.ensures.joined c.in_ok-write_op_at.ensures (Puts-exit c.texts_in_turn.ensures.stopped _ (rw c.bounds_at-bounds.ensures at c.in_err-write_bounds_words.ensures) c.from_residual-in_err-write_bounds_words.ensures.1))

pub returns : goal.returns
returns g c = Puts-append c.texts_in_turn.ensures.joined c.in_ok-put.ensures (Puts-append c.texts_in_turn.ensures.joined c.in_ok-write_op_at.ensures (Puts-append c.texts_in_turn.ensures.joined (rw c.bounds_at-bounds.ensures at c.in_ok-write_bounds_words.ensures) c.put-2.ensures))
