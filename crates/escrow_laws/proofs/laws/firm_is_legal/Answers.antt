use Rattle.escrow_laws.proofs.Staying.{firm_legal}
use Rattle.escrow_laws.proofs.laws.firm_is_legal.Goals as goal

pub returns : goal.returns
returns c = firm_legal
