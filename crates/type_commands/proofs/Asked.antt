-- The operations that are asked for.
use Rattle.std.proofs.Common.{◌≡◌, ℕ, ◌+◌, ◌<◌, Bool, true, false, List, [], ◌∷◌, ◌++◌, filter, All, refl, sym, ap, ◌∙◌, append-nil, arith}
use Rattle.std.specs.List.{range_with_len}
use Rattle.std.proofs.lemmas.List.Elements.{All-filter, filter-append}
use Rattle.std.proofs.lemmas.List.FromFn.{get_or-range_with_len, length-range_with_len}
use Rattle.type_table.proofs.Elements.{range-more}

module _ (test : ℕ → Bool) where
  -- one number more
  one_more : (k : ℕ) → filter test (range_with_len 0 (k + 1)) ≡ filter test (range_with_len 0 k) ++ filter test (k ∷ [])
  one_more k = ap (λ l. filter test l) (range-more k) ∙ filter-append test (range_with_len 0 k) (k ∷ [])

  -- which passes
  pub one_passes : (xs : List ℕ) (k : ℕ) → xs ≡ filter test (range_with_len 0 k) → test k ≡ true → xs ++ k ∷ [] ≡ filter test (range_with_len 0 (k + 1))
  one_passes xs k so_far passes =
      let here : filter test (k ∷ []) ≡ k ∷ [] = rw passes refl in
      ap (λ l. l ++ k ∷ []) so_far ∙ sym (one_more k ∙ ap (λ l. filter test (range_with_len 0 k) ++ l) here)

  -- or doesn't
  pub one_fails : (xs : List ℕ) (k : ℕ) → xs ≡ filter test (range_with_len 0 k) → test k ≡ false → xs ≡ filter test (range_with_len 0 (k + 1))
  one_fails xs k so_far fails =
      let here : filter test (k ∷ []) ≡ [] = rw fails refl in
      so_far ∙ sym (one_more k ∙ ap (λ l. filter test (range_with_len 0 k) ++ l) here ∙ append-nil (filter test (range_with_len 0 k)))

  -- each that passes is below the count
  pub all_below : (n : ℕ) → All (λ k. k < n) (filter test (range_with_len 0 n))
  all_below n =
      All-filter test (λ k. k < n) (range_with_len 0 n)
      (λ i d inside. let below : i < n = omega (arith, inside, length-range_with_len 0 n) in omega (arith, get_or-range_with_len 0 n i d below))
