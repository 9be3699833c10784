use Rattle.std.proofs.Common.{◌∷◌, ◌++◌, [], ap, arith, ◌∙◌, Some}
use Rattle.open_transactions.proofs.InSlots.{as-many, begin-placed, begin-shows}
use Rattle.history_judge.specs.Slots.{slot_number, slot_row}
use Rattle.history_judge.proofs.slots.Slots.begin.Goals as goal

pub invariant_of-self-2 : goal.invariant_of-self-2
invariant_of-self-2 c =
    rw (c.push_reserved.ensures.items, c.reserve-2.ensures.items, c.push_reserved-2.ensures.items, c.reserve.ensures.items)
    (begin-placed slot_number slot_row c.self.inside.slots.items c.self.inside.slot_of.items c.self.invariant c.args.self.now c.self.view_is c.len-slot.result
    (omega (arith, c.len-slot.ensures, c.self.inside.slots.ok.0)) (omega (arith, c.len-slot.ensures, c.self.inside.slots.ok.0, c.if-slot.false)) _
    (c.requires ∙ as-many slot_number slot_row c.self.inside.slots.items c.self.inside.slot_of.items c.self.invariant c.args.self.now c.self.view_is))

pub returns-clause-ok : goal.returns-clause-ok
returns-clause-ok c =
    rw (c.push_reserved.ensures.items, c.reserve-2.ensures.items, c.push_reserved-2.ensures.items, c.reserve.ensures.items)
    (begin-shows slot_number slot_row c.self.inside.slots.items c.self.inside.slot_of.items c.self.invariant c.args.self.now c.self.view_is c.len-slot.result
    (omega (arith, c.len-slot.ensures, c.self.inside.slots.ok.0)) (omega (arith, c.len-slot.ensures, c.self.inside.slots.ok.0, c.if-slot.false)) _
    ∙ ap (λ its. c.args.self.now ++ Some its ∷ []) c.emptied-operations.ensures)
