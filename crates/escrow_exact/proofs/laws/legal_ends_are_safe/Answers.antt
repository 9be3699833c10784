use Rattle.escrow_exact.proofs.Reaching.{legal_ends_are_safe}
use Rattle.escrow_exact.proofs.laws.legal_ends_are_safe.Goals as goal

pub returns : goal.returns
returns c = legal_ends_are_safe c.runs_along.ensures
