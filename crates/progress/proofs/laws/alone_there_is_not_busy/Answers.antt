use Rattle.progress.proofs.Waits.{alone_there_is_not_busy}
use Rattle.progress.proofs.laws.alone_there_is_not_busy.Goals as goal

pub returns : goal.returns
returns c = alone_there_is_not_busy
