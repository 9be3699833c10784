use Rattle.object_trait.proofs.Kept.{keeps-others}
use Rattle.object_trait.proofs.laws.keeps_others.Goals as goal

pub returns : goal.returns
returns g c = keeps-others
