use Rattle.escrow_laws.proofs.Staying.{firm_committed}
use Rattle.escrow_laws.proofs.laws.firm_after_commit.Goals as goal

pub returns : goal.returns
returns c = firm_committed
