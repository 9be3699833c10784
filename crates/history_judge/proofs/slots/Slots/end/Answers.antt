use Rattle.std.proofs.Common.{sym, ap, arith}
use Rattle.open_transactions.proofs.InSlots.{moved-began, slot-inside, slot-shows, end-placed, end-shows}
use Rattle.history_judge.specs.Slots.{slot_number, slot_row, its_of}
use Rattle.history_judge.proofs.slots.Slots.end.Goals as goal

pub index_mut-requires : goal.index_mut-requires
index_mut-requires c =
    let began = moved-began slot_number slot_row c.self.inside.slots.items c.self.inside.slot_of.items c.self.invariant c.args.self.now c.self.view_is c.args.t c.index-slot.result.now c.index-slot.result.now c.requires c.index-slot.ensures
    c.len-last.result (omega (arith, c.len-last.ensures, c.self.inside.slots.ok.0)) c.index.result.now c.index.ensures in
    omega (arith, began, c.self.inside.slot_of.ok.0)

pub swap_remove-operations-requires : goal.swap_remove-operations-requires
swap_remove-operations-requires c =
    let inside = slot-inside slot_number slot_row c.self.inside.slots.items c.self.inside.slot_of.items c.self.invariant c.args.self.now c.self.view_is c.args.t c.index-slot.result.now c.index-slot.result.now c.requires c.index-slot.ensures in
    omega (arith, inside, c.self.inside.slots.ok.0)

pub invariant_of-self : goal.invariant_of-self
invariant_of-self c =
    rw c.swap_remove-operations.ensures.items
    (end-placed slot_number slot_row c.self.inside.slots.items c.self.inside.slot_of.items c.self.invariant c.args.self.now c.self.view_is c.args.t c.index-slot.result.now c.index-slot.result.now c.requires c.index-slot.ensures
    c.len-last.result (omega (arith, c.len-last.ensures, c.self.inside.slots.ok.0)) c.index.result.now c.index.ensures c.swap_remove-operations.result)

pub returns-clause-operations : goal.returns-clause-operations
returns-clause-operations c = sym (ap its_of (slot-shows slot_number slot_row c.self.inside.slots.items c.self.inside.slot_of.items c.self.invariant c.args.self.now c.self.view_is c.args.t c.index-slot.result.now c.index-slot.result.now c.requires c.index-slot.ensures c.swap_remove-operations.result c.swap_remove-operations.ensures.value))

pub returns-clause-rows : goal.returns-clause-rows
returns-clause-rows c =
    rw c.swap_remove-operations.ensures.items
    (end-shows slot_number slot_row c.self.inside.slots.items c.self.inside.slot_of.items c.self.invariant c.args.self.now c.self.view_is c.args.t c.index-slot.result.now c.index-slot.result.now c.requires c.index-slot.ensures
    c.len-last.result (omega (arith, c.len-last.ensures, c.self.inside.slots.ok.0)) c.index.result.now c.index.ensures c.swap_remove-operations.result)
