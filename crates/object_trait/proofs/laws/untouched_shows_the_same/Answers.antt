use Rattle.object_trait.proofs.Untouched.{untouched-shows}
use Rattle.object_trait.proofs.laws.untouched_shows_the_same.Goals as goal

pub returns : goal.returns
returns c = untouched-shows c.runs_along.ensures
