use Rattle.workers.proofs.Starts.{start_is_kept}
use Rattle.workers.proofs.laws.start_is_kept.Goals as goal

-- what is known at the start
pub returns : goal.returns
returns c = start_is_kept
