use Rattle.std.proofs.Common.{◌∙◌}
use Rattle.table_checker.proofs.Found.{somewhere}
use Rattle.table_checker.proofs.parallel.fails_somewhere.Goals as goal

pub returns : goal.returns
returns c = c.is_some.ensures ∙ somewhere c.args.condition c.args.file.now c.args.p c.args.q c.first_failing_state.result c.first_failing_state.ensures
