use Rattle.object_trait.proofs.Committed.{committed_is_left}
use Rattle.object_trait.proofs.laws.committed_is_left.Goals as goal

pub returns : goal.returns
returns c = committed_is_left c.runs_along.ensures
