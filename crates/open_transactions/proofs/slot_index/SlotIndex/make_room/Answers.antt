use Rattle.std.proofs.Common.{◌+◌, ◌++◌, sym, take, replicate, ap, ◌∙◌}
use Rattle.open_transactions.specs.Index.{ended}
use Rattle.open_transactions.proofs.Cut.{cut-shows}
use Rattle.open_transactions.proofs.slot_index.SlotIndex.make_room.Goals as goal

pub returns-clause-slots : goal.returns-clause-slots
returns-clause-slots c =
    let inside = c.self.inside in
    let count = c.count_ended-ended.result in
    let front = ap (take count) (sym c.deref.ensures.value) ∙ c.count_ended-ended.ensures.front in
    ap (λ kept. replicate (inside.cut + count) ended ++ kept) c.cut_off.ensures.rest
    ∙ cut-shows inside.cut inside.slots.items count front
    ∙ ap (λ a. a.slots) c.self.view_is
