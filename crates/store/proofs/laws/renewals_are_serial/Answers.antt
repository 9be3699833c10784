use Rattle.store.proofs.SerialRenewals.{renewals-serial}
use Rattle.store.proofs.laws.renewals_are_serial.Goals as goal

pub returns : goal.returns
returns c = renewals-serial c.epochs_are_serial.ensures c.epochs_go_on.ensures
