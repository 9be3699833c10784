use Rattle.object_trait.proofs.Sorting.{sorts-look}
use Rattle.object_trait.proofs.laws.sorts_look.Goals as goal

pub returns : goal.returns
returns g c = search (c, sorts-look)
