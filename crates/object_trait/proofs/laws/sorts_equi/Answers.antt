use Rattle.object_trait.proofs.Sorting.{sorts-equi}
use Rattle.object_trait.proofs.laws.sorts_equi.Goals as goal

pub returns : goal.returns
returns g c = search (c, sorts-equi)
