use Rattle.outputs.proofs.Turns.{Puts-append, Puts-exit}
use Rattle.need_text.proofs.pair_lines.write_history.Goals as goal

pub returns-in_err-write_object : goal.returns-in_err-write_object
returns-in_err-write_object g c = Puts-exit c.texts_in_turn.ensures.stopped _ c.in_err-write_object.ensures c.from_residual.ensures.1

pub returns-in_err-write_leading : goal.returns-in_err-write_leading
returns-in_err-write_leading g c = Puts-append c.texts_in_turn.ensures.joined c.in_ok-write_object.ensures (Puts-exit c.texts_in_turn.ensures.stopped _ (rw c.deref.ensures.value at c.in_err-write_leading.ensures) c.from_residual-in_err-write_leading.ensures.1)

pub returns-in_err-write_both : goal.returns-in_err-write_both
returns-in_err-write_both g c = Puts-append c.texts_in_turn.ensures.joined c.in_ok-write_object.ensures (Puts-append c.texts_in_turn.ensures.joined (rw c.deref.ensures.value at c.in_ok-write_leading.ensures) (Puts-exit c.texts_in_turn.ensures.stopped _ c.in_err-write_both.ensures c.from_residual-in_err-write_both.ensures.1))

pub returns-in_err-write_first : goal.returns-in_err-write_first
returns-in_err-write_first g c = Puts-append c.texts_in_turn.ensures.joined c.in_ok-write_object.ensures (Puts-append c.texts_in_turn.ensures.joined (rw c.deref.ensures.value at c.in_ok-write_leading.ensures) (Puts-append c.texts_in_turn.ensures.joined c.in_ok-write_both.ensures (Puts-exit c.texts_in_turn.ensures.stopped _ c.in_err-write_first.ensures c.from_residual-in_err-write_first.ensures.1)))

pub returns-in_err-write_second : goal.returns-in_err-write_second
returns-in_err-write_second g c = Puts-append c.texts_in_turn.ensures.joined c.in_ok-write_object.ensures (Puts-append c.texts_in_turn.ensures.joined (rw c.deref.ensures.value at c.in_ok-write_leading.ensures) (Puts-append c.texts_in_turn.ensures.joined c.in_ok-write_both.ensures (Puts-append c.texts_in_turn.ensures.joined c.in_ok-write_first.ensures (Puts-exit c.texts_in_turn.ensures.stopped _ c.in_err-write_second.ensures c.from_residual-in_err-write_second.ensures.1))))

pub returns : goal.returns
returns g c = Puts-append c.texts_in_turn.ensures.joined c.in_ok-write_object.ensures (Puts-append c.texts_in_turn.ensures.joined (rw c.deref.ensures.value at c.in_ok-write_leading.ensures) (Puts-append c.texts_in_turn.ensures.joined c.in_ok-write_both.ensures (Puts-append c.texts_in_turn.ensures.joined c.in_ok-write_first.ensures (Puts-append c.texts_in_turn.ensures.joined c.in_ok-write_second.ensures (rw c.deref-2.ensures.value at c.write_telling.ensures)))))
