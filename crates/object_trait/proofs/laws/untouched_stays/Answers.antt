use Rattle.object_trait.proofs.Untouched.{untouched-stays}
use Rattle.object_trait.proofs.laws.untouched_stays.Goals as goal

pub returns : goal.returns
returns c = untouched-stays
