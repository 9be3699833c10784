-- The tests of elements, and what they say.
use Rattle.std.proofs.Common.{◌≡◌, ◌≢◌, ℕ, zero, suc, ◌<◌, ◌≤◌, true, false, List, [], ◌∷◌, length, get_or, refl, sym, ◌∙◌, arith}
use Rattle.std.specs.List.{list_all}
use Rattle.std.specs.Str.{bytes_eq}
use Rattle.std.proofs.lemmas.Bool.{both_ways, false_from_ne_true, or_parts, or_from, le-leb, leb-true}
use Rattle.std.proofs.lemmas.List.{get_or_default}
use Rattle.std.proofs.lemmas.List.Folds.{list_any_at, list_any_none}
use Rattle.std.proofs.lemmas.List.Sums.{AllPass-from_list_all, list_all-from_AllPass}
use Rattle.std.proofs.lemmas.Slice.Eq.{bytes_eq-Decides}
use Rattle.table_families.specs.Elements.{element_at, is_short, repeats}

-- elements of which none occurs twice differ at each two places
pub distinct-from_repeats : (elements : List (List ℕ)) → repeats elements ≡ false → (i j : ℕ) → i < j → j < length elements → element_at elements i ≢ element_at elements j
distinct-from_repeats [] h i j before below e = absurd (omega arith)
distinct-from_repeats (x ∷ elements) h i zero before below e = absurd (omega arith)
distinct-from_repeats (x ∷ elements) h zero (suc j) before below e =
    both_ways _ (or_parts _ _ h).0 (list_any_at (λ other. bytes_eq other x) elements j [] (omega arith) ((bytes_eq-Decides (element_at elements j) x).1 (sym e)))
distinct-from_repeats (x ∷ elements) h (suc i) (suc j) before below e = distinct-from_repeats elements (or_parts _ _ h).1 i j (omega arith) (omega arith) e

-- and elements that differ at each two places don't occur twice
pub repeats-from_distinct : (elements : List (List ℕ)) → ((i j : ℕ) → i < j → j < length elements → element_at elements i ≢ element_at elements j) → repeats elements ≡ false
repeats-from_distinct [] h = refl
repeats-from_distinct (x ∷ elements) h =
    or_from _ _
    (list_any_none (λ other. bytes_eq other x) elements (λ k d below. false_from_ne_true _ (λ same. h 0 (suc k) (omega arith) (omega arith) (sym ((bytes_eq-Decides (get_or elements k d) x).0 same) ∙ get_or_default elements k d [] below))))
    (repeats-from_distinct elements (λ i j before below. h (suc i) (suc j) (omega arith) (omega arith)))

-- each element is short, by a test of each
pub short-from_all : (most : ℕ) (elements : List (List ℕ)) → list_all (is_short most) elements ≡ true → (i : ℕ) → i < length elements → length (element_at elements i) ≤ most
short-from_all most elements h i below = leb-true (length (element_at elements i)) most (AllPass-from_list_all (is_short most) elements h i [] below)

-- and the other way round
pub all-from_short : (most : ℕ) (elements : List (List ℕ)) → ((i : ℕ) → i < length elements → length (element_at elements i) ≤ most) → list_all (is_short most) elements ≡ true
all-from_short most elements h = list_all-from_AllPass (is_short most) elements (λ i d below. rw (get_or_default elements i d [] below) (le-leb (length (element_at elements i)) most (h i below)))
