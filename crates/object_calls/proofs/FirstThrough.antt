-- The least numbers that pass a test, found through another numbering.
use Rattle.std.proofs.Common.{◌≡◌, ℕ, zero, suc, ◌<◌, Bool, true, false, Option, Some, None, refl, sym, ap, ◌∙◌, inl, inr, arith}
use Rattle.std.specs.Option.{option_map, option_or}
use Rattle.std.proofs.lemmas.Bool.{cases_eq, cases_lt, false≢true, false_from_ne_true}
use Rattle.std.proofs.lemmas.Option.{none-some}
use Rattle.type_table.specs.Least.{found_or, first_below}
use Rattle.type_table.proofs.Least.{first_below-none, first_below-found, found_below, found_true}

-- where nothing is found none passes
fails_or : (test : ℕ → Bool) (n q : ℕ) (found : Option ℕ) (passes : Bool) → test n ≡ passes → (found ≡ None → q < n → test q ≡ false) → found_or found passes n ≡ None → q < suc n → test q ≡ false
fails_or test n q (Some j) passes named before none less = absurd (none-some j (sym none))
fails_or test n q None true named before none less = absurd (none-some n (sym none))
fails_or test n q None false named before none less =
    elim (cases_eq q n) [
      | inl same ↦ ap test same ∙ named
      | inr other ↦ before refl (omega (arith, less, other))
    ]

first_below-fails : (test : ℕ → Bool) (n q : ℕ) → first_below n test ≡ None → q < n → test q ≡ false
first_below-fails test zero q none less = absurd (omega (arith, less))
first_below-fails test (suc n) q none less = fails_or test n q (first_below n test) (test n) refl (first_below-fails test n q) none less

-- and below what is found none does
least_or : (test : ℕ → Bool) (n k q : ℕ) (found : Option ℕ) (passes : Bool) → (found ≡ None → q < n → test q ≡ false) → (found ≡ Some k → q < k → test q ≡ false) → found_or found passes n ≡ Some k → q < k → test q ≡ false
least_or test n k q (Some j) passes none before is less = before is less
least_or test n k q None true none before is less = let same : n ≡ k = cc in none refl (omega (arith, same, less))
least_or test n k q None false none before is less = absurd (none-some k is)

first_below-least : (test : ℕ → Bool) (n k q : ℕ) → first_below n test ≡ Some k → q < k → test q ≡ false
first_below-least test zero k q is less = absurd (none-some k is)
first_below-least test (suc n) k q is less = least_or test n k q (first_below n test) (test n) (first_below-fails test n q) (first_below-least test n k q) is less

-- what is found first is kept, and each further number after it
pub map_found : (g : ℕ → ℕ) (found : Option ℕ) (k : ℕ) → option_or (option_map g found) (Some (g k)) ≡ option_map g (found_or found true k)
map_found g (Some j) k = refl
map_found g None k = refl

-- numbers p below m are those of numbers g p below n, in the same order. Each k that passes is the number of one that does, and the other way
-- round: then the least is found by either
module _ (test part : ℕ → Bool) (g : ℕ → ℕ) (n m : ℕ)
    (ascends : (p q : ℕ) → p < q → g p < g q)
    (covers : (k : ℕ) → k < n → test k ≡ true → (p : ℕ) × (p < m) × (part p ≡ true) × (g p ≡ k))
    (there : (p : ℕ) → p < m → part p ≡ true → (g p < n) × (test (g p) ≡ true)) where
  -- below the number of the least none passes
  none_before : (p k : ℕ) → first_below m part ≡ Some p → k < n → k < g p → test k ≡ true → ⊥
  none_before p k found below before passes =
      let q = covers k below passes in
      elim (cases_lt q.0 p) [
        | inl less ↦ false≢true (sym (first_below-least part m p q.0 found less) ∙ q.2)
        | inr past ↦
            elim (cases_eq p q.0) [
              | inl same ↦ omega (arith, before, q.3, ap g same)
              | inr other ↦ omega (arith, before, q.3, ascends p q.0 (omega (arith, past, other)))
            ]
      ]

  by : (found : Option ℕ) → first_below m part ≡ found → first_below n test ≡ option_map g found
  by None none =
      first_below-none test n
      (λ k below. false_from_ne_true (test k) (λ passes. let q = covers k below passes in false≢true (sym (first_below-fails part m q.0 none q.1) ∙ q.2)))
  by (Some p) found =
      let at = there p (found_below part m p (Some p) (sym found) refl) (found_true part m p (Some p) (sym found) refl) in
      first_below-found test (g p) n
      (first_below-none test (g p) (λ k before. false_from_ne_true (test k) (none_before p k found (omega (arith, before, at.0)) before)))
      at.1 at.0

  pub first_below-through : first_below n test ≡ option_map g (first_below m part)
  first_below-through = by (first_below m part) refl
