use Rattle.type_table.proofs.Ends.{ends-inside}
use Rattle.type_table.proofs.laws.ends_inside.Goals as goal

pub returns : goal.returns
returns c = ends-inside
