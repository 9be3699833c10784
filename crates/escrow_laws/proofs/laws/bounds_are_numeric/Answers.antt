use Rattle.escrow_laws.proofs.Numbers.{bounds_numeric}
use Rattle.escrow_laws.proofs.laws.bounds_are_numeric.Goals as goal

pub returns : goal.returns
returns c = bounds_numeric
