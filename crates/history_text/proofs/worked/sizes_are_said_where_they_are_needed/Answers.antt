use Rattle.std.proofs.Common.{refl}
use Rattle.std.specs.Fmt.{digits}
use Rattle.history_text.proofs.worked.sizes_are_said_where_they_are_needed.Goals as goal

pub returns-clause-text : goal.returns-clause-text
unfolding digits
returns-clause-text c = refl
