use Rattle.escrow_laws.proofs.Faulty.{numeric_faultless}
use Rattle.escrow_laws.proofs.laws.numeric_is_faultless.Goals as goal

pub returns : goal.returns
returns c = numeric_faultless
