use Rattle.dynamic_atomicity.proofs.Joined.{joined_order}
use Rattle.dynamic_atomicity.proofs.laws.joined_order.Goals as goal

pub returns : goal.returns
returns c = joined_order
