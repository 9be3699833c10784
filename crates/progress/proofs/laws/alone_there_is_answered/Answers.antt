use Rattle.progress.proofs.Waits.{alone_there_is_answered}
use Rattle.progress.proofs.laws.alone_there_is_answered.Goals as goal

pub returns : goal.returns
returns c = alone_there_is_answered
