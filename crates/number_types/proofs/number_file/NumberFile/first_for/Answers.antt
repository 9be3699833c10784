use Rattle.std.proofs.Common.{sym, ◌∙◌}
use Rattle.number_types.specs.declared.number_call.NumberCall.TheVariants.{Take}
use Rattle.number_types.proofs.FirstOps.{none_for, first_found}
use Rattle.number_types.proofs.number_file.NumberFile.first_for.Goals as goal

pub returns-in_err-line : goal.returns-in_err-line
returns-in_err-line c = rw c.from_residual.ensures (none_for c.args.self.now c.args.call (sym c.line_for.ensures ∙ c.in_err-line.was))

pub returns : goal.returns
returns c =
    rw (c.first_at.ensures, c.calls-calls.ensures.exact, c.amount.ensures)
    (first_found c.args.self.now c.args.call c.calls-calls.ensures.number c.in_ok-line.line (Take 0) (sym c.line_for.ensures ∙ c.in_ok-line.was))
