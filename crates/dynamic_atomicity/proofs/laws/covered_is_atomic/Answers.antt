use Rattle.dynamic_atomicity.proofs.Dynamic.{covered_is_atomic}
use Rattle.dynamic_atomicity.proofs.laws.covered_is_atomic.Goals as goal

pub returns : goal.returns
returns c = covered_is_atomic c.runs_are_atomic_living.ensures
