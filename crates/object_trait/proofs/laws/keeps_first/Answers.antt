use Rattle.object_trait.proofs.Striking.{keeps-first}
use Rattle.object_trait.proofs.laws.keeps_first.Goals as goal

pub returns : goal.returns
returns g c = keeps-first
