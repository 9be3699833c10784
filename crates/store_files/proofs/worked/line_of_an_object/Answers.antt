use Rattle.std.proofs.Common.{refl}
use Rattle.std.specs.Fmt.{digits}
use Rattle.store_files.proofs.worked.line_of_an_object.Goals as goal

pub returns : goal.returns
unfolding digits
returns c = refl
