use Rattle.std.proofs.Common.{ap, arith}
use Rattle.open_transactions.specs.Slots.{transaction_number, open_row}
use Rattle.open_transactions.proofs.InSlots.{as-many, ended-told, open-told}
use Rattle.open_transactions.proofs.open_transactions.OpenTransactions.oldest.Goals as goal

pub returns-clause-ended : goal.returns-clause-ended
returns-clause-ended c = λ t before.
    ended-told transaction_number open_row c.self.inside.slots.items c.self.inside.index.slots c.self.invariant.placed c.args.self.now.rows (ap (λ a. a.rows) c.self.view_is) t (c.oldest.ensures.ended t before)

pub returns-clause-oldest : goal.returns-clause-oldest
returns-clause-oldest c = λ began.
    let shown = ap (λ a. a.rows) c.self.view_is in
    let many = as-many transaction_number open_row c.self.inside.slots.items c.self.inside.index.slots c.self.invariant.placed c.args.self.now.rows shown in
    open-told transaction_number open_row c.self.inside.slots.items c.self.inside.index.slots c.self.invariant.placed c.args.self.now.rows shown c.oldest.result (c.oldest.ensures.oldest (omega (arith, began, many)))
