use Rattle.dynamic_atomicity.proofs.Joined.{joined_is_atomic_living}
use Rattle.dynamic_atomicity.proofs.laws.joined_is_atomic_living.Goals as goal

pub returns : goal.returns
returns c = joined_is_atomic_living c.runs_are_atomic_living.ensures
