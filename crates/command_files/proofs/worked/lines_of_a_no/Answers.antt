use Rattle.std.proofs.Common.{refl}
use Rattle.std.specs.Fmt.{digits}
use Rattle.command_files.proofs.worked.lines_of_a_no.Goals as goal

pub returns : goal.returns
unfolding digits
returns c = record { initial = refl; closed = refl; simulation = refl; commuting = refl; numeric = refl }
