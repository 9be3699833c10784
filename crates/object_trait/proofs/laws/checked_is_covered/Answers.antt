use Rattle.object_trait.proofs.Accepted.{checked-covered}
use Rattle.object_trait.proofs.laws.checked_is_covered.Goals as goal

pub returns : goal.returns
returns c = checked-covered c.yes_covers.ensures c.strong_yes_covers.ensures
