use Rattle.escrow_laws.proofs.Staying.{firm_struck}
use Rattle.escrow_laws.proofs.laws.firm_after_strike.Goals as goal

pub returns : goal.returns
returns c = firm_struck
