use Rattle.escrow_laws.proofs.Extremes.{extremes_telling}
use Rattle.escrow_laws.proofs.laws.extremes_tell_firm.Goals as goal

pub returns : goal.returns
returns c = extremes_telling c.marks_tell_firm.ensures c.sums_fit.ensures
