use Rattle.type_table.proofs.Steps.{next-within}
use Rattle.type_table.proofs.laws.steps_within.Goals as goal

pub returns : goal.returns
returns c = next-within
