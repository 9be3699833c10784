use Rattle.serial_order.proofs.Epochs.{epochs-are-serial}
use Rattle.serial_order.proofs.epoch_laws.epochs_are_serial.Goals as goal

pub returns : goal.returns
returns c =
    epochs-are-serial c.runs_alike.ensures c.at_is_checked.ensures c.at_is_strong.ensures c.checked_is_covered.ensures c.checked_headline.ensures
    c.looks_extends.ensures c.equi_extends.ensures c.runs_along.ensures
