use Rattle.serial_order.proofs.Stopping.{stopper_blocks}
use Rattle.serial_order.proofs.laws.stopper_is_blocker.Goals as goal

pub returns : goal.returns
returns c = stopper_blocks
