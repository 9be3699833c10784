use Rattle.serial_order.proofs.ClosedEpochs.{states-are-inside}
use Rattle.serial_order.proofs.epoch_laws.states_are_inside.Goals as goal

pub returns : goal.returns
returns c = states-are-inside c.checked_is_covered.ensures c.ends_inside.ensures
