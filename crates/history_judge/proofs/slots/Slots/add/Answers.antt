use Rattle.std.proofs.Common.{refl, sym, ap, [], ◌∷◌, ◌++◌, ◌∙◌, set, Some}
use Rattle.std.proofs.lemmas.Result.{on_ok_weaker}
use Rattle.open_transactions.proofs.InSlots.{slot-shows, set-placed, set-shows}
use Rattle.history_judge.specs.Slots.{slot_number, slot_row, its_of}
use Rattle.history_judge.proofs.slots.Slots.add.Goals as goal

pub invariant_of-self : goal.invariant_of-self
invariant_of-self c =
    set-placed slot_number slot_row c.self.inside.slots.items c.self.inside.slot_of.items c.self.invariant c.args.self.now c.self.view_is c.args.t c.index.result.now c.index.result.now c.requires c.index.ensures
    c.index_mut.result.now _ c.index_mut.ensures.value refl

pub returns-clause-ok : goal.returns-clause-ok
returns-clause-ok c =
    let its = ap its_of (slot-shows slot_number slot_row c.self.inside.slots.items c.self.inside.slot_of.items c.self.invariant c.args.self.now c.self.view_is c.args.t c.index.result.now c.index.result.now c.requires c.index.ensures c.index_mut.result.now c.index_mut.ensures.value) in
    on_ok_weaker c.push.result
    (λ pushed. set-shows slot_number slot_row c.self.inside.slots.items c.self.inside.slot_of.items c.self.invariant c.args.self.now c.self.view_is c.args.t c.index.result.now c.index.result.now c.requires c.index.ensures
    (record { number = c.index_mut.result.now.number; operations = c.push.new.self })
    ∙ ap (λ l. set c.args.self.now c.args.t (Some l)) (pushed ∙ ap (λ l. l ++ c.args.operation ∷ []) (sym its)))
    c.push.ensures.ok
