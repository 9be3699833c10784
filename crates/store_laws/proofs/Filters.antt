-- Filters: of mapped lists, and how many they keep.
use Rattle.std.proofs.Common.{◌≡◌, ℕ, suc, ◌+◌, ◌≤◌, Bool, false, List, [], ◌∷◌, map, filter, length, drop, take, refl, sym, ap, ◌∙◌, inl, inr, arith}
use Rattle.std.specs.Prelude.{nat_lt}
use Rattle.std.specs.List.{list_any}
use Rattle.std.proofs.lemmas.Bool.{cases_Bool, lt-ltb, ltb-false}
use Rattle.std.proofs.lemmas.List.{length-map, take-append-drop, length-append}
use Rattle.std.proofs.lemmas.List.Elements.{filter-append}

-- ---- mapped lists

-- what a filter keeps of a mapped list
filter-map : {A B : Type 0} (f : A → B) (test : B → Bool) (V : List A) → filter test (map f V) ≡ map f (filter (λ a. test (f a)) V)
filter-map f test [] = refl
filter-map f test (a ∷ V) =
    elim (cases_Bool (test (f a))) [
      | inl passes ↦ rw passes (ap (λ rest. f a ∷ rest) (filter-map f test V))
      | inr fails ↦ rw fails (filter-map f test V)
    ]

-- and how much of it
pub count-map : {A B : Type 0} (f : A → B) (test : B → Bool) (V : List A) → length (filter test (map f V)) ≡ length (filter (λ a. test (f a)) V)
count-map f test V = ap length (filter-map f test V) ∙ length-map (filter (λ a. test (f a)) V) f

-- ---- how many pass

-- some element passes, where a filter keeps some
any-count : {E : Type 0} (test : E → Bool) (V : List E) → list_any test V ≡ nat_lt 0 (length (filter test V))
any-count test [] = refl
any-count test (e ∷ V) =
    elim (cases_Bool (test e)) [
      | inl passes ↦ rw passes (sym (lt-ltb 0 (suc (length (filter test V))) (omega arith)))
      | inr fails ↦ rw fails (any-count test V)
    ]

-- none, where none passes
pub count-none : {E : Type 0} (test : E → Bool) (V : List E) → list_any test V ≡ false → length (filter test V) ≡ 0
count-none test V none = let most = ltb-false 0 (length (filter test V)) (sym (any-count test V) ∙ none) in omega (arith, most)

-- of the end of a list no more than of the list
pub count-drop : {E : Type 0} (test : E → Bool) (n : ℕ) (V : List E) → length (filter test (drop n V)) ≤ length (filter test V)
count-drop test n V =
    let parts : length (filter test V) ≡ length (filter test (take n V)) + length (filter test (drop n V)) =
    ap (λ W. length (filter test W)) (sym (take-append-drop n V))
    ∙ ap length (filter-append test (take n V) (drop n V))
    ∙ length-append (filter test (take n V)) (filter test (drop n V))
    in
    omega (arith, parts)
