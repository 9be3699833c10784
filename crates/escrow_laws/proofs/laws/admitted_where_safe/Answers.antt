use Rattle.escrow_laws.proofs.Happened.{admitted_safe}
use Rattle.escrow_laws.proofs.laws.admitted_where_safe.Goals as goal

pub returns : goal.returns
returns c = admitted_safe c.firm_is_safe.ensures c.safe_is_firm.ensures
