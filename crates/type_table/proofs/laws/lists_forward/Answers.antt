use Rattle.type_table.proofs.Lists.{forward}
use Rattle.type_table.proofs.laws.lists_forward.Goals as goal

pub returns : goal.returns
returns c = forward c.runs_along.ensures c.equi_extends.ensures
