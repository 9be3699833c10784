use Rattle.outputs.proofs.Turns.{Puts-append, Puts-exit}
use Rattle.need_text.proofs.pair_lines.write_telling.Goals as goal

pub returns-in_err-write_begin : goal.returns-in_err-write_begin
returns-in_err-write_begin g c = Puts-exit c.texts_in_turn.ensures.stopped _ c.in_err-write_begin.ensures c.from_residual.ensures.1

pub returns-in_err-write_op_lines : goal.returns-in_err-write_op_lines
returns-in_err-write_op_lines g c = Puts-append c.texts_in_turn.ensures.joined c.in_ok-write_begin.ensures (Puts-exit c.texts_in_turn.ensures.stopped _ c.in_err-write_op_lines.ensures c.from_residual-in_err-write_op_lines.ensures.1)

pub returns-in_err-write_commit : goal.returns-in_err-write_commit
returns-in_err-write_commit g c = Puts-append c.texts_in_turn.ensures.joined c.in_ok-write_begin.ensures (Puts-append c.texts_in_turn.ensures.joined c.in_ok-write_op_lines.ensures (Puts-exit c.texts_in_turn.ensures.stopped _ c.in_err-write_commit.ensures c.from_residual-in_err-write_commit.ensures.1))

pub returns : goal.returns
returns g c = Puts-append c.texts_in_turn.ensures.joined c.in_ok-write_begin.ensures (Puts-append c.texts_in_turn.ensures.joined c.in_ok-write_op_lines.ensures (Puts-append c.texts_in_turn.ensures.joined c.in_ok-write_commit.ensures c.put.ensures))
