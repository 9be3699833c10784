use Rattle.exact_tables.proofs.Greatest.{greatest-is_exact}
use Rattle.exact_tables.proofs.laws.greatest_is_exact.Goals as goal

pub returns : goal.returns
returns c = greatest-is_exact c.steps_within.ensures c.simulation_looks.ensures
