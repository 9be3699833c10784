use Rattle.object_trait.proofs.Committed.{all_done_is_committed}
use Rattle.object_trait.proofs.laws.all_done_is_committed.Goals as goal

pub returns : goal.returns
returns c = all_done_is_committed
