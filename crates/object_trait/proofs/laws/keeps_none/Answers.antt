use Rattle.object_trait.proofs.Kept.{keeps-none}
use Rattle.object_trait.proofs.laws.keeps_none.Goals as goal

pub returns : goal.returns
returns g c = keeps-none
