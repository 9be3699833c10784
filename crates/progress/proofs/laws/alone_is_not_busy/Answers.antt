use Rattle.progress.proofs.Waits.{alone_is_not_busy}
use Rattle.progress.proofs.laws.alone_is_not_busy.Goals as goal

pub returns : goal.returns
returns c = alone_is_not_busy c.alone_there_is_not_busy.ensures c.alone_is_alone_there.ensures
