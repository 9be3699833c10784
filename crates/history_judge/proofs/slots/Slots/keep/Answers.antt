use Rattle.std.proofs.Common.{refl, sym, ap, set, take, ◌∙◌, Some}
use Rattle.open_transactions.proofs.InSlots.{slot-shows, set-placed, set-shows}
use Rattle.history_judge.specs.Slots.{slot_number, slot_row, its_of}
use Rattle.history_judge.proofs.slots.Slots.keep.Goals as goal

pub invariant_of-self : goal.invariant_of-self
invariant_of-self c =
    set-placed slot_number slot_row c.self.inside.slots.items c.self.inside.slot_of.items c.self.invariant c.args.self.now c.self.view_is c.args.t c.index.result.now c.index.result.now c.requires c.index.ensures
    c.index_mut.result.now _ c.index_mut.ensures.value refl

pub returns : goal.returns
returns c =
    let its = ap its_of (slot-shows slot_number slot_row c.self.inside.slots.items c.self.inside.slot_of.items c.self.invariant c.args.self.now c.self.view_is c.args.t c.index.result.now c.index.result.now c.requires c.index.ensures c.index_mut.result.now c.index_mut.ensures.value) in
    set-shows slot_number slot_row c.self.inside.slots.items c.self.inside.slot_of.items c.self.invariant c.args.self.now c.self.view_is c.args.t c.index.result.now c.index.result.now c.requires c.index.ensures _
    ∙ ap (λ l. set c.args.self.now c.args.t (Some l)) (c.truncate.ensures ∙ ap (take c.args.n) (sym its))
