use Rattle.escrow_laws.proofs.Staying.{firm_applied}
use Rattle.escrow_laws.proofs.laws.firm_after_apply.Goals as goal

pub returns : goal.returns
returns c = firm_applied
