use Rattle.std.proofs.Common.{Some, is_some, sym, ap, ◌∙◌}
use Rattle.number_types.proofs.Tables.{names_of_op, has_what_is_there}
use Rattle.number_types.proofs.number_file.NumberFile.op.Goals as goal

pub returns-in_err-op-clause-there : goal.returns-in_err-op-clause-there
returns-in_err-op-clause-there c = ap is_some c.from_residual.ensures ∙ sym (ap is_some (sym c.op_at.ensures ∙ c.in_err-op.was)) ∙ has_what_is_there c.args.self.now c.args.k c.calls-calls.ensures.number

pub returns-clause-there : goal.returns-clause-there
returns-clause-there c = sym (ap is_some (sym c.op_at.ensures ∙ c.in_ok-op.was)) ∙ has_what_is_there c.args.self.now c.args.k c.calls-calls.ensures.number

pub returns-clause-exact : goal.returns-clause-exact
returns-clause-exact c = names_of_op c.args.self.now c.args.k c.in_ok-op.op c.calls-calls.ensures.number (sym c.op_at.ensures ∙ c.in_ok-op.was) ∙ ap Some (sym c.names.ensures)
