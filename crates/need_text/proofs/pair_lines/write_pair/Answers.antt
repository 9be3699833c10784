use Rattle.outputs.proofs.Turns.{Puts-append, Puts-exit}
use Rattle.need_text.proofs.pair_lines.write_pair.Goals as goal

pub returns-in_err-write_pair_line : goal.returns-in_err-write_pair_line
returns-in_err-write_pair_line g c = Puts-exit c.texts_in_turn.ensures.stopped _ c.in_err-write_pair_line.ensures c.from_residual.ensures.1

pub returns-in_err-write_if_failing : goal.returns-in_err-write_if_failing
returns-in_err-write_if_failing g c = Puts-append c.texts_in_turn.ensures.joined c.in_ok-write_pair_line.ensures (Puts-exit c.texts_in_turn.ensures.stopped _ c.in_err-write_if_failing.ensures c.from_residual-in_err-write_if_failing.ensures.1)

pub returns : goal.returns
returns g c = Puts-append c.texts_in_turn.ensures.joined c.in_ok-write_pair_line.ensures (Puts-append c.texts_in_turn.ensures.joined c.in_ok-write_if_failing.ensures c.write_mends.ensures)
