use Rattle.escrow_laws.proofs.Staying.{fresh_firm}
use Rattle.escrow_laws.proofs.laws.fresh_is_firm.Goals as goal

pub returns : goal.returns
returns c = fresh_firm
