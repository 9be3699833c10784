use Rattle.object_trait.proofs.Striking.{struck-part}
use Rattle.object_trait.proofs.laws.struck_part.Goals as goal

pub returns : goal.returns
returns g c = struck-part
