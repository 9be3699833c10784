use Rattle.type_table.proofs.Lists.{backward_both_ways}
use Rattle.type_table.proofs.laws.lists_backward_both_ways.Goals as goal

pub returns : goal.returns
returns c = backward_both_ways c.runs_along.ensures c.equi_extends.ensures
