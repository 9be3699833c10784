use Rattle.escrow_exact.proofs.Breaking.{unsafe_breaks}
use Rattle.escrow_exact.proofs.laws.unsafe_breaks.Goals as goal

pub returns : goal.returns
returns c = unsafe_breaks c.runs_along.ensures c.firm_is_safe.ensures
