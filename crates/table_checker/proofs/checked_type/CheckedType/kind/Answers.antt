use Rattle.std.proofs.Common.{ap}
use Rattle.table_checker.specs.Checked.{Checked}
use Rattle.table_checker.proofs.checked_type.CheckedType.kind.Goals as goal

pub returns : goal.returns
returns c = ap (λ (k : Checked). k.kind) c.self.view_is
