use Rattle.exact_tables.proofs.Least.{covers-exactly}
use Rattle.exact_tables.proofs.laws.covers_exactly.Goals as goal

pub returns : goal.returns
returns c = covers-exactly c.steps_within.ensures
