use Rattle.exact_tables.proofs.Least.{made-is_least}
use Rattle.exact_tables.proofs.laws.made_is_least.Goals as goal

pub returns : goal.returns
returns c = made-is_least c.covers_exactly.ensures
