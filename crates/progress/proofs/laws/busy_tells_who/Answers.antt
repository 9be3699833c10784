use Rattle.progress.proofs.Waits.{busy_tells_who}
use Rattle.progress.proofs.laws.busy_tells_who.Goals as goal

pub returns : goal.returns
returns c = busy_tells_who
