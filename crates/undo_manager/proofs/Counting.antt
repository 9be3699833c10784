-- How many transactions are open: as many as are counted.
use Rattle.std.proofs.Common.{◌≡◌, ◌≤◌, ◌<◌, ℕ, eqb, ltb, false, List, [], ◌∷◌, map, length, refl, sym, ap, ◌∙◌, inl, inr}
use Rattle.std.specs.List.{list_any, AllByRecursion}
use Rattle.std.proofs.lemmas.Bool.{cases_Bool, lt-ltb}
use Rattle.std.proofs.lemmas.List.{length-map}
use Rattle.object_trait.specs.Laws.{OpensAreCounted}
use Rattle.object_trait.specs.Steps.{open_transactions}
use Rattle.object_trait.specs.declared.log_entry.LogEntry.{LogEntry}
use Rattle.object_trait.proofs.Lists.{pairs-map}
use Rattle.undo_manager.specs.Opened.{count_of, HasCounts}
use Rattle.undo_manager.specs.declared.opened.Opened.{Opened}

-- the transactions of a list of counts
abbrev listed : List Opened → List ℕ
listed counts = map (λ (o : Opened). o.by) counts

-- a transaction is listed where its count is more than none
count-lists : (t : ℕ) (counts : List Opened) → AllByRecursion (λ o. 0 < o.count) counts → list_any (λ u. eqb u t) (listed counts) ≡ ltb 0 (count_of t counts)
count-lists t [] p = refl
count-lists t (o ∷ counts) p =
    elim (cases_Bool (eqb o.by t)) [
      | inl is ↦ rw is (sym (lt-ltb 0 o.count p.0))
      | inr isnt ↦ rw isnt (count-lists t counts p.1)
    ]

-- so there are as many counts as open transactions, and no more than entries
pub counts-length : OpensAreCounted → (log : List LogEntry) (counts : List Opened) → HasCounts log counts →
    (length counts ≡ length (open_transactions log)) × (length counts ≤ length log)
counts-length count log counts c =
    rw (length-map counts (λ (o : Opened). o.by)) at (count log (listed counts) (pairs-map (λ a b. eqb b a ≡ false) (λ (o : Opened). o.by) (λ a b apart. apart) counts c.listed.once) (λ t. count-lists t counts c.listed.some ∙ ap (ltb 0) (c.exact t)))
