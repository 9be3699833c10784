use Rattle.std.proofs.Common.{sym, ◌∙◌}
use Rattle.number_types.proofs.Amounts.{no_number, number_fits}
use Rattle.number_types.proofs.call_names.amount_of.Goals as goal

pub returns-in_err-number : goal.returns-in_err-number
returns-in_err-number c = rw c.from_residual.ensures (no_number c.args.digits.now (sym c.long_number_of.ensures ∙ c.in_err-number.was))

pub returns : goal.returns
returns c = rw c.ok.ensures.value (number_fits c.args.digits.now c.in_ok-number.number c.try_from.result (sym c.long_number_of.ensures ∙ c.in_ok-number.was) c.try_from.ensures)
