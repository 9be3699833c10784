use Rattle.escrow_laws.proofs.Lowest.{fall_lowest}
use Rattle.escrow_laws.proofs.laws.fall_is_lowest.Goals as goal

pub returns : goal.returns
returns c = fall_lowest
