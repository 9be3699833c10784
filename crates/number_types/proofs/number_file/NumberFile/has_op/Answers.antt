use Rattle.std.proofs.Common.{is_some, ap, ◌∙◌}
use Rattle.number_types.proofs.Tables.{has_what_is_there}
use Rattle.number_types.proofs.number_file.NumberFile.has_op.Goals as goal

pub returns : goal.returns
returns c = c.is_some.ensures ∙ ap is_some c.op_at.ensures ∙ has_what_is_there c.args.self.now c.args.k c.calls-calls.ensures.number
