use Rattle.outputs.proofs.Turns.{Puts-append, Puts-exit}
use Rattle.need_text.proofs.pair_lines.write_mends.Goals as goal

pub returns-in_err-write_missing : goal.returns-in_err-write_missing
returns-in_err-write_missing g c = Puts-exit c.texts_in_turn.ensures.stopped _ c.in_err-write_missing.ensures c.from_residual.ensures.1

pub returns-in_err-write_if_too_large : goal.returns-in_err-write_if_too_large
returns-in_err-write_if_too_large g c = Puts-append c.texts_in_turn.ensures.joined c.in_ok-write_missing.ensures (Puts-exit c.texts_in_turn.ensures.stopped _ c.in_err-write_if_too_large.ensures c.from_residual-in_err-write_if_too_large.ensures.1)

pub returns : goal.returns
returns g c = Puts-append c.texts_in_turn.ensures.joined c.in_ok-write_missing.ensures (Puts-append c.texts_in_turn.ensures.joined c.in_ok-write_if_too_large.ensures (rw c.deref.ensures.value at c.write_relation.ensures))
