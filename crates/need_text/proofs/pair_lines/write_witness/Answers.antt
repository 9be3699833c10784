use Rattle.outputs.proofs.Turns.{Puts-append, Puts-exit}
use Rattle.need_text.proofs.pair_lines.write_witness.Goals as goal

pub returns-in_err-write_state : goal.returns-in_err-write_state
returns-in_err-write_state g c = Puts-exit c.texts_in_turn.ensures.stopped _ c.in_err-write_state.ensures c.from_residual.ensures.1

pub returns-in_err-write_ops_line : goal.returns-in_err-write_ops_line
returns-in_err-write_ops_line g c = Puts-append c.texts_in_turn.ensures.joined c.in_ok-write_state.ensures (Puts-exit c.texts_in_turn.ensures.stopped _ (rw c.deref.ensures.value at c.in_err-write_ops_line.ensures) c.from_residual-in_err-write_ops_line.ensures.1)

pub returns-in_err-write_tell : goal.returns-in_err-write_tell
returns-in_err-write_tell g c = Puts-append c.texts_in_turn.ensures.joined c.in_ok-write_state.ensures (Puts-append c.texts_in_turn.ensures.joined (rw c.deref.ensures.value at c.in_ok-write_ops_line.ensures) (Puts-exit c.texts_in_turn.ensures.stopped _ (rw c.deref-2.ensures.value at c.in_err-write_tell.ensures) c.from_residual-in_err-write_tell.ensures.1))

pub returns-in_err-write_history : goal.returns-in_err-write_history
returns-in_err-write_history g c = Puts-append c.texts_in_turn.ensures.joined c.in_ok-write_state.ensures (Puts-append c.texts_in_turn.ensures.joined (rw c.deref.ensures.value at c.in_ok-write_ops_line.ensures) (Puts-append c.texts_in_turn.ensures.joined (rw c.deref-2.ensures.value at c.in_ok-write_tell.ensures) (Puts-exit c.texts_in_turn.ensures.stopped _ c.in_err-write_history.ensures c.from_residual-in_err-write_history.ensures.1)))

pub returns : goal.returns
returns g c = Puts-append c.texts_in_turn.ensures.joined c.in_ok-write_state.ensures (Puts-append c.texts_in_turn.ensures.joined (rw c.deref.ensures.value at c.in_ok-write_ops_line.ensures) (Puts-append c.texts_in_turn.ensures.joined (rw c.deref-2.ensures.value at c.in_ok-write_tell.ensures) (Puts-append c.texts_in_turn.ensures.joined c.in_ok-write_history.ensures c.write_fails.ensures)))
