use Rattle.progress.proofs.Waits.{waiting_ends}
use Rattle.progress.proofs.laws.waiting_ends.Goals as goal

pub returns : goal.returns
returns c = waiting_ends
