use Rattle.escrow_laws.proofs.Lowest.{rise_highest}
use Rattle.escrow_laws.proofs.laws.rise_is_highest.Goals as goal

pub returns : goal.returns
returns c = rise_highest
