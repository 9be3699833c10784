use Rattle.exact_tables.proofs.Looks.{exact-simulates}
use Rattle.exact_tables.proofs.laws.exact_simulates.Goals as goal

pub returns : goal.returns
returns c = exact-simulates c.steps_within.ensures
