use Rattle.std.proofs.Common.{refl}
use Rattle.std.specs.Fmt.{digits}
use Rattle.script_run.proofs.worked.lines_of_operations.Goals as goal

pub returns : goal.returns
unfolding digits
returns c = record { listed = refl; amount = refl }
