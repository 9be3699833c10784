use Rattle.std.proofs.Common.{ap}
use Rattle.open_transactions.specs.Slots.{transaction_number, open_row}
use Rattle.open_transactions.proofs.InSlots.{open-tested}
use Rattle.open_transactions.proofs.open_transactions.OpenTransactions.is_open.Goals as goal

pub returns : goal.returns
returns c =
    open-tested transaction_number open_row c.self.inside.slots.items c.self.inside.index.slots c.self.invariant.placed c.args.self.now.rows (ap (λ a. a.rows) c.self.view_is) c.args.t c.slot.result c.slot.ensures
