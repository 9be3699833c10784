-- As many views as open transactions.
use Rattle.std.proofs.Common.{◌≡◌, ℕ, ◌<◌, ◌≤◌, eqb, ltb, List, [], ◌∷◌, length, refl, sym, ap, ◌∙◌, inl, inr}
use Rattle.std.specs.List.{list_any, AllByRecursion}
use Rattle.std.proofs.lemmas.Bool.{cases_Bool, lt-ltb}
use Rattle.std.proofs.lemmas.List.{length-map}
use Rattle.object_trait.specs.Laws.{OpensAreCounted}
use Rattle.object_trait.specs.Meaning.{open_of}
use Rattle.object_trait.specs.Steps.{open_transactions}
use Rattle.object_trait.specs.declared.log_entry.LogEntry.{LogEntry}
use Rattle.object_trait.proofs.Rows.{ordered-differ}
use Rattle.intentions_manager.specs.Views.{view_owners, ViewsAscend, seen_by}
use Rattle.intentions_manager.specs.declared.views.View.{View}

-- who sees entries has a view, and nobody else
owner-holds : (u base : ℕ) (views : List View) → AllByRecursion (λ (v : View). 0 < v.count) views → list_any (λ t. eqb t u) (view_owners views) ≡ ltb 0 (seen_by u base views).count
owner-holds u base [] some = refl
owner-holds u base (v ∷ views) some =
    elim (cases_Bool (eqb v.by u)) [
      | inl is ↦ rw is (sym (lt-ltb 0 v.count some.0))
      | inr isnt ↦ rw isnt (owner-holds u base views some.1)
    ]

-- one view for each open transaction, and no more than entries
pub count-views : OpensAreCounted → (base : ℕ) (log : List LogEntry) (views : List View) → AllByRecursion (λ (v : View). 0 < v.count) views → ViewsAscend views →
    ((u : ℕ) → (seen_by u base views).count ≡ length (open_of u log)) → (length views ≡ length (open_transactions log)) × (length views ≤ length log)
count-views count base log views some ordered counted =
    rw (length-map views (λ (v : View). v.by)) at (count log (view_owners views) (ordered-differ (view_owners views) ordered) (λ u. owner-holds u base views some ∙ ap (ltb 0) (counted u)))
