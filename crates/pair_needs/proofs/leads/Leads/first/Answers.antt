use Rattle.std.proofs.Common.{ℕ, Bool, true, false, List, [], ◌∷◌, ◌++◌, set, replicate, ap, ◌∙◌}
use Rattle.pair_needs.specs.declared.leads.Lead.{Lead}
use Rattle.pair_needs.specs.declared.leads.Leads.{Leads}
use Rattle.pair_needs.proofs.Search.{searched-first}
use Rattle.pair_needs.proofs.leads.Leads.first.Goals as goal

pub returns : goal.returns
returns c =
    let l : Lead = record { state = c.initial-state.result; list = c.new-list.result } in
    let new : Leads = record { found = c.push.new.self; set = c.add.new.self } in
    searched-first c.args.table.now new l c.states.ensures.table c.initial-state.ensures.exact c.new-list.ensures.items
    (c.in_ok-push.ensures.items ∙ ap (λ (V : List Lead). V ++ l ∷ []) c.new-found.ensures.items)
    (c.add.ensures ∙ ap (λ (m : List Bool). set m c.initial-state.result true) (c.empty-set.ensures ∙ ap (λ (n : ℕ). replicate n false) c.states.ensures.exact))
