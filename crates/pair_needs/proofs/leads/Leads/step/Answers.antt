use Rattle.std.proofs.Common.{◌≡◌, ℕ, List, ◌∷◌, [], ◌++◌, refl, sym, ap, ◌∙◌}
use Rattle.std.proofs.lemmas.Option.{none-some, same_Some, slice_get_read}
use Rattle.type_table.specs.StateSet.{has}
use Rattle.pair_needs.specs.declared.leads.Lead.{Lead}
use Rattle.pair_needs.specs.declared.leads.Leads.{Leads}
use Rattle.pair_needs.proofs.Search.{searched-same, searched-more}
use Rattle.pair_needs.proofs.leads.Leads.step.Goals as goal

pub returns-in_default-clause-found : goal.returns-in_default-clause-found
returns-in_default-clause-found c =
    searched-same c.args.table.now c.args.place c.args.k c.args.self.now c.index-from.result.now c.requires.searched
    (slice_get_read c.args.self.now.found.items _ c.args.place c.index-from.result.now refl c.requires.place c.index-from.ensures)
    (λ t step. absurd (none-some t (sym c.in_default.is ∙ c.next.ensures.exact ∙ step)))

pub returns-then-has-clause-found : goal.returns-then-has-clause-found
returns-then-has-clause-found c =
    searched-same c.args.table.now c.args.place c.args.k c.args.self.now c.index-from.result.now c.requires.searched
    (slice_get_read c.args.self.now.found.items _ c.args.place c.index-from.result.now refl c.requires.place c.index-from.ensures)
    (λ t step. let same : c.in-Some.state ≡ t = same_Some c.in-Some.state t (sym c.in-Some.is ∙ c.next.ensures.exact ∙ step) in
    ap (has c.args.self.now.set) (sym same) ∙ sym c.has.ensures ∙ c.if-has.true)

pub returns-clause-found : goal.returns-clause-found
returns-clause-found c =
    let last : Lead = record { state = c.in-Some.state; list = c.push.new.self } in
    let new : Leads = record { found = c.push-2.new.self; set = c.add.new.self } in
    searched-more c.runs_along.ensures c.args.table.now c.args.place c.args.k c.args.self.now new c.index-from.result.now last c.requires.searched
    (slice_get_read c.args.self.now.found.items _ c.args.place c.index-from.result.now refl c.requires.place c.index-from.ensures)
    (sym c.next.ensures.exact ∙ c.in-Some.is) c.in-Some.ensures.inside (sym c.has.ensures ∙ c.if-has.false)
    (c.in_ok-push.ensures.items ∙ ap (λ (w : List ℕ). w ++ c.args.k ∷ []) (c.in_ok-list.ensures.items ∙ c.deref.ensures.value))
    c.in_ok-push-2.ensures.items c.add.ensures
