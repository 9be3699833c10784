use Rattle.exact_tables.proofs.Least.{covers-strongly_exactly}
use Rattle.exact_tables.proofs.laws.covers_strongly_exactly.Goals as goal

pub returns : goal.returns
returns c = covers-strongly_exactly c.steps_within.ensures
