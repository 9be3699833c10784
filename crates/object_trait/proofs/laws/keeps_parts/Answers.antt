use Rattle.object_trait.proofs.Kept.{keeps-parts}
use Rattle.object_trait.proofs.laws.keeps_parts.Goals as goal

pub returns : goal.returns
returns g c = keeps-parts
