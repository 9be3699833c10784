use Rattle.escrow_exact.proofs.Lasting.{safe_ends_are_legal}
use Rattle.escrow_exact.proofs.laws.safe_ends_are_legal.Goals as goal

pub returns : goal.returns
returns c = safe_ends_are_legal c.runs_along.ensures c.legal_ends.ensures
