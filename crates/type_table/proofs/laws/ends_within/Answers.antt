use Rattle.type_table.proofs.Ends.{ends-within}
use Rattle.type_table.proofs.laws.ends_within.Goals as goal

pub returns : goal.returns
returns c = ends-within c.steps_within.ensures c.ends_inside.ensures
