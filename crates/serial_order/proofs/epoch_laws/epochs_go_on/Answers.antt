use Rattle.serial_order.proofs.Epochs.{epochs_go_on}
use Rattle.serial_order.proofs.epoch_laws.epochs_go_on.Goals as goal

pub returns : goal.returns
returns c = epochs_go_on
