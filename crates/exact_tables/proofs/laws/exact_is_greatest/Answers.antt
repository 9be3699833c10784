use Rattle.exact_tables.proofs.Looks.{exact-is_greatest}
use Rattle.exact_tables.proofs.laws.exact_is_greatest.Goals as goal

pub returns : goal.returns
returns c = exact-is_greatest c.simulation_looks.ensures
