use Rattle.escrow_laws.proofs.Exact.{marks_exact}
use Rattle.escrow_laws.proofs.laws.marks_are_exact.Goals as goal

pub returns : goal.returns
returns c = marks_exact
