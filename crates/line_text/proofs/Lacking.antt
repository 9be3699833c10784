-- Sections that are missing below a lower rank, and after more items; and what else is known of items.
use Rattle.std.proofs.Common.{◌≡◌, ℕ, zero, suc, ◌+◌, ◌-◌, ◌<◌, ◌≤◌, Bool, true, false, not, ◌&&◌, List, [], ◌∷◌, ◌++◌, length, set, get_or, Option, Some, refl, ap, inl, inr, arith}
use Rattle.std.specs.List.{slice_get}
use Rattle.std.proofs.lemmas.Bool.{cases_eq, or_parts, ltb-true, lt-ltb}
use Rattle.line_text.specs.Rules.{Rules, count_at, was_read}
use Rattle.line_text.specs.Steps.{IsKnown, place_of}
use Rattle.line_text.specs.declared.read_so_far.Place.{Place}
use Rattle.line_text.specs.LineTests.{lacks, is_needed}
use Rattle.line_text.proofs.Counts.{count_at_push, IsCounted-push}
use Rattle.line_text.proofs.Items.{last_item_push}

-- where no section is missing below a rank, none is below a lower one
pub lacks-lower : {Item : Type 0} (g : Rules Item) (items : List Item) (low high : ℕ) → low ≤ high → lacks g items high ≡ false → lacks g items low ≡ false
lacks-lower g items low zero within none = let e : low ≡ 0 = omega arith in rw e refl
lacks-lower g items low (suc high) within none =
    elim (cases_eq low (suc high)) [
      | inl e ↦ rw e none
      | inr e ↦ lacks-lower g items low high (omega arith) (or_parts (lacks g items high) (is_needed (slice_get g.sections high) && not (was_read g items high)) none).0
    ]

-- a section that has an item has one also after one more item
was_read_push : {Item : Type 0} (g : Rules Item) (items : List Item) (x : Item) (rank : ℕ) → was_read g items rank ≡ true → was_read g (items ++ x ∷ []) rank ≡ true
was_read_push g items x rank e = lt-ltb 0 (count_at g (items ++ x ∷ []) rank) (omega (arith, count_at_push g items x rank, ltb-true 0 (count_at g items rank) e))

-- nor is one missing after one more item
pub lacks_push : {Item : Type 0} (g : Rules Item) (items : List Item) (x : Item) (rank : ℕ) → lacks g items rank ≡ false → lacks g (items ++ x ∷ []) rank ≡ false
lacks_push g items x zero none = refl
lacks_push g items x (suc rank) none =
    let parts = or_parts (lacks g items rank) (is_needed (slice_get g.sections rank) && not (was_read g items rank)) none in
    rw (lacks_push g items x rank parts.0) (go (is_needed (slice_get g.sections rank)) (was_read g items rank) refl parts.1)
  where
    go : (needed has : Bool) → was_read g items rank ≡ has → (needed && not has) ≡ false → (needed && not (was_read g (items ++ x ∷ []) rank)) ≡ false
    go false has e f = refl
    go true true e f = rw (was_read_push g items x rank e) refl
    go true false e f = absurd cc

-- what is known of items with one more
pub IsKnown-push : {Item : Type 0} (g : Rules Item) (items after : List Item) (counts : List ℕ) (last : Option Place) (clear : ℕ) (x : Item) (p : Place) (n : ℕ) → IsKnown g items counts last clear → p ≡ place_of g x → p.rank < length g.sections → n ≡ get_or counts p.rank 0 + 1 → lacks g items (g.rank_of x) ≡ false → after ≡ items ++ x ∷ [] → IsKnown g after (set counts p.rank n) (Some p) p.rank
IsKnown-push g items after counts last clear x p n known is below more none appended =
    let ranked : p.rank ≡ g.rank_of x = ap (λ (q : Place). q.rank) is in
    record {
      counted = IsCounted-push g items after counts x p.rank n known.counted ranked below more appended;
      last_is = rw (appended, last_item_push items x) (ap Some is);
      lacks_none = rw (appended, ranked) (lacks_push g items x (g.rank_of x) none);
    }
