use Rattle.outputs.proofs.Turns.{Puts-append, Puts-exit}
use Rattle.need_text.proofs.pair_lines.write_both.Goals as goal

pub returns-in_err-write_begin : goal.returns-in_err-write_begin
returns-in_err-write_begin g c = Puts-exit c.texts_in_turn.ensures.stopped _ c.in_err-write_begin.ensures c.from_residual.ensures.1

pub returns-in_err-write_begin-2 : goal.returns-in_err-write_begin-2
returns-in_err-write_begin-2 g c = Puts-append c.texts_in_turn.ensures.joined c.in_ok-write_begin.ensures (Puts-exit c.texts_in_turn.ensures.stopped _ c.in_err-write_begin-2.ensures c.from_residual-in_err-write_begin-2.ensures.1)

pub returns-in_err-write_op_line : goal.returns-in_err-write_op_line
returns-in_err-write_op_line g c = Puts-append c.texts_in_turn.ensures.joined c.in_ok-write_begin.ensures (Puts-append c.texts_in_turn.ensures.joined c.in_ok-write_begin-2.ensures (Puts-exit c.texts_in_turn.ensures.stopped _ c.in_err-write_op_line.ensures c.from_residual-in_err-write_op_line.ensures.1))

pub returns : goal.returns
returns g c = Puts-append c.texts_in_turn.ensures.joined c.in_ok-write_begin.ensures (Puts-append c.texts_in_turn.ensures.joined c.in_ok-write_begin-2.ensures (Puts-append c.texts_in_turn.ensures.joined c.in_ok-write_op_line.ensures c.write_op_line-2.ensures))
