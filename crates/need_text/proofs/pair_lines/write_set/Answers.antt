use Rattle.outputs.proofs.Turns.{Puts-append, Puts-exit}
use Rattle.need_text.proofs.pair_lines.write_set.Goals as goal

pub returns-in_err-write_missing_lines : goal.returns-in_err-write_missing_lines
returns-in_err-write_missing_lines g c = Puts-exit c.texts_in_turn.ensures.stopped _ c.in_err-write_missing_lines.ensures c.from_residual.ensures.1

pub returns : goal.returns
returns g c = Puts-append c.texts_in_turn.ensures.joined c.in_ok-write_missing_lines.ensures c.write_dropped_lines.ensures
