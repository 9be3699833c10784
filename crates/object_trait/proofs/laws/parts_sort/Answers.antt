use Rattle.object_trait.proofs.Sorting.{parts-sort}
use Rattle.object_trait.proofs.laws.parts_sort.Goals as goal

pub returns : goal.returns
returns g c = parts-sort
