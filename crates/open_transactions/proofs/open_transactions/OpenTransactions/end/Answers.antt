use Rattle.std.proofs.Common.{◌+◌, ap, ◌∙◌, arith}
use Rattle.open_transactions.specs.Index.{ended}
use Rattle.open_transactions.specs.Transactions.{count_open}
use Rattle.open_transactions.specs.Slots.{transaction_number, open_row}
use Rattle.open_transactions.proofs.InSlots.{moved-slotted, still-slotted, end-shows}
use Rattle.open_transactions.proofs.Calls.{end-known}
use Rattle.open_transactions.proofs.Counts.{count-less}
use Rattle.open_transactions.proofs.open_transactions.OpenTransactions.end.Goals as goal

pub put-requires-clause-still_open : goal.put-requires-clause-still_open
put-requires-clause-still_open c =
    moved-slotted transaction_number open_row c.self.inside.slots.items c.self.inside.index.slots c.self.invariant.placed c.args.self.now.rows (ap (λ a. a.rows) c.self.view_is) c.args.t
    c.open_slot-slot.result ended c.requires c.open_slot-slot.ensures c.len-last.result (omega (arith, c.len-last.ensures, c.self.inside.slots.ok.0)) c.index.result.now c.index.ensures

pub end-requires : goal.end-requires
end-requires c =
    rw c.put.ensures.slots
    (still-slotted transaction_number open_row c.self.inside.slots.items c.self.inside.index.slots c.self.invariant.placed c.args.self.now.rows (ap (λ a. a.rows) c.self.view_is) c.args.t
    c.open_slot-slot.result ended c.requires c.open_slot-slot.ensures c.len-last.result (omega (arith, c.len-last.ensures, c.self.inside.slots.ok.0)) c.index.result.now c.index.ensures)

pub invariant_of-self : goal.invariant_of-self
invariant_of-self c =
    rw (c.end.ensures, c.put.ensures.slots, c.swap_remove.ensures.items)
    (end-known c.self.inside.slots.items c.self.inside.index.slots c.self.invariant c.args.self.now.rows (ap (λ a. a.rows) c.self.view_is) c.args.t
    c.open_slot-slot.result c.requires c.open_slot-slot.ensures c.len-last.result (omega (arith, c.len-last.ensures, c.self.inside.slots.ok.0)) c.index.result.now c.index.ensures c.swap_remove.result)

pub returns-clause-rows : goal.returns-clause-rows
returns-clause-rows c =
    rw (c.end.ensures, c.put.ensures.slots, c.swap_remove.ensures.items)
    (end-shows transaction_number open_row c.self.inside.slots.items c.self.inside.index.slots c.self.invariant.placed c.args.self.now.rows (ap (λ a. a.rows) c.self.view_is) c.args.t
    c.open_slot-slot.result ended c.requires c.open_slot-slot.ensures c.len-last.result (omega (arith, c.len-last.ensures, c.self.inside.slots.ok.0)) c.index.result.now c.index.ensures c.swap_remove.result)

pub returns-clause-count : goal.returns-clause-count
returns-clause-count c = ap (λ rows. count_open rows + 1) (returns-clause-rows c) ∙ count-less c.args.self.now.rows c.args.t c.requires
