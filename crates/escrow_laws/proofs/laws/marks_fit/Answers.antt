use Rattle.escrow_laws.proofs.Fits.{marks_small}
use Rattle.escrow_laws.proofs.laws.marks_fit.Goals as goal

pub returns : goal.returns
returns c = marks_small
