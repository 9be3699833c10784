use Rattle.dynamic_atomicity.proofs.Joined.{joined_is_atomic}
use Rattle.dynamic_atomicity.proofs.laws.joined_is_atomic.Goals as goal

pub returns : goal.returns
returns c = joined_is_atomic c.covered_is_atomic.ensures
