use Rattle.serial_order.proofs.Replays.{first_op_is_least}
use Rattle.serial_order.proofs.laws.first_op_is_least.Goals as goal

pub returns : goal.returns
returns c = first_op_is_least
