use Rattle.serial_order.proofs.Opens.{beginners_after}
use Rattle.serial_order.proofs.laws.beginners_after.Goals as goal

-- each begin adds its worker
pub returns : goal.returns
returns c = beginners_after
