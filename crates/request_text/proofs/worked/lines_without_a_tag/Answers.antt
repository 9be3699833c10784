use Rattle.std.proofs.Common.{refl}
use Rattle.type_table.specs.Name.{is_name}
use Rattle.request_text.proofs.worked.lines_without_a_tag.Goals as goal

pub returns-clause-empty : goal.returns-clause-empty
unfolding is_name
returns-clause-empty c = refl

pub returns-clause-upper_case : goal.returns-clause-upper_case
unfolding is_name
returns-clause-upper_case c = refl
