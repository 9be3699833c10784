use Rattle.std.proofs.Common.{ap, ◌∙◌}
use Rattle.table_checker.specs.At.{checked_at}
use Rattle.table_checker.proofs.checked_type.CheckedType.is_same.Goals as goal

pub returns : goal.returns
returns c = λ same. c.is_at.ensures same ∙ ap (checked_at c.args.other.now) c.initial.ensures.exact
