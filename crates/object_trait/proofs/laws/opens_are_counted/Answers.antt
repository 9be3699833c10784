use Rattle.object_trait.proofs.Counting.{opens-counted}
use Rattle.object_trait.proofs.laws.opens_are_counted.Goals as goal

pub returns : goal.returns
returns c = opens-counted
