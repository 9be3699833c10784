use Rattle.std.proofs.Common.{rules, ◌≡◌, ◌≤◌, length, ◌∙◌, arith}
use Rattle.object_trait.specs.Steps.{open_transactions}
use Rattle.intentions_manager.proofs.Counting.{count-views}
use Rattle.intentions_manager.proofs.manager.IntentionsManagerRecovery.open_count.Goals as goal

-- one view for each open transaction, and no more than entries
counted : (c : goal.After-len) → (length c.self.inside.views.items ≡ length (open_transactions c.self.inside.log.items)) × (length c.self.inside.views.items ≤ length c.self.inside.log.items)
counted c =
    let h = c.self.invariant.0 in
    count-views c.opens_are_counted.ensures c.self.inside.base c.self.inside.log.items c.self.inside.views.items h.some h.ordered (λ u. (h.seen u).counted)

pub overflow_cast-result : goal.overflow_cast-result
overflow_cast-result c =
    let room = c.self.invariant.0.room in
    let few = (counted c).1 in
    let here : c.len.result ≤ 4294967295 = omega (arith, c.len.ensures, c.self.inside.views.ok.0) in
    search rules

pub returns : goal.returns
returns c = rw (← c.self.view_is) (c.len.ensures ∙ c.self.inside.views.ok.0 ∙ (counted c).0)
