use Rattle.escrow_laws.proofs.Telling.{marks_telling_firm}
use Rattle.escrow_laws.proofs.laws.marks_tell_firm.Goals as goal

pub returns : goal.returns
returns c = marks_telling_firm
