use Rattle.type_table.proofs.Lists.{backward}
use Rattle.type_table.proofs.laws.lists_backward.Goals as goal

pub returns : goal.returns
returns c = backward c.runs_along.ensures c.looks_extends.ensures
