use Rattle.escrow_laws.proofs.Told.{bounds_told}
use Rattle.escrow_laws.proofs.laws.bounds_are_told.Goals as goal

pub returns : goal.returns
returns c = bounds_told
