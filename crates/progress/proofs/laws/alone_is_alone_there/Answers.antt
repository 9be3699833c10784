use Rattle.progress.proofs.Waits.{alone_is_alone_there}
use Rattle.progress.proofs.laws.alone_is_alone_there.Goals as goal

pub returns : goal.returns
returns c = alone_is_alone_there
