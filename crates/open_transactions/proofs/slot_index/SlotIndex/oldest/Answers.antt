use Rattle.std.proofs.Common.{sym, get_or, take, ap, ◌∙◌}
use Rattle.open_transactions.specs.Index.{ended}
use Rattle.open_transactions.proofs.Cut.{ended-shows}
use Rattle.open_transactions.proofs.slot_index.SlotIndex.oldest.Goals as goal

pub returns-clause-ended : goal.returns-clause-ended
returns-clause-ended c = λ t before.
    let count = c.count_ended.result in
    let front = ap (take count) (sym c.deref.ensures.value) ∙ c.count_ended.ensures.front in
    ap (λ a. get_or a.slots t ended) (sym c.self.view_is) ∙ ended-shows c.self.inside.cut c.self.inside.slots.items count front t before
