-- The numbers that are made are numbers.
use Rattle.std.proofs.Common.{◌≡◌, ◌∙◌, ℕ, suc, ◌+◌, ◌<◌, ◌≤◌, true, List, [], ◌∷◌, ◌++◌, length, map, add-one, append-nil, refl, arith}
use Rattle.std.specs.List.{list_all}
use Rattle.std.proofs.lemmas.Bool.{and_parts, and_from}
use Rattle.std.proofs.lemmas.Bool.Decides.{nat_tests}
use Rattle.std.proofs.lemmas.List.{length-append, length-map}
use Rattle.number_types.specs.Number.{IsNumber}
use Rattle.number_types.specs.Calls.{are_ascending, is_below, is_within}
use Rattle.number_types.specs.declared.number_call.NumberCall.{NumberCall}
use Rattle.number_types.specs.declared.number_call.NumberCall.TheVariants.{Take, Give}
use Rattle.table_families.specs.Amounts.{amount_at, is_amount_up_to}
use Rattle.table_families.proofs.AmountFacts.{all-from_each, amount-before}
use Rattle.table_families.specs.Number.{AreNumberAmounts, NumberFits, amount_calls, amounts_number}

-- each amount is less than the next one
abbrev Ascend : List ℕ → Type 0
Ascend amounts = (i : ℕ) → i + 1 < length amounts → amount_at amounts i < amount_at amounts (i + 1)

-- so it is after the first
rest_ascends : (a : ℕ) (rest : List ℕ) → Ascend (a ∷ rest) → Ascend rest
rest_ascends a rest up i below = let next : amount_at rest i < amount_at rest (suc i) = rw add-one at (up (suc i) (omega (arith, below))) in rw add-one next

-- which is less than all of them
first_least : (a : ℕ) (rest : List ℕ) → Ascend (a ∷ rest) → (i : ℕ) → i < length rest → a < amount_at rest i
first_least a rest up i below = amount-before (a ∷ rest) up 0 (suc i) (omega arith) (omega (arith, below))

-- ---- calls of one kind, and calls after them

module _ (call : ℕ → NumberCall) (orders : (a b : ℕ) → a < b → is_below (call a) (call b) ≡ true) where
  -- one of a lesser amount is below each
  all_above : (a : ℕ) (amounts : List ℕ) (after : List NumberCall) → ((i : ℕ) → i < length amounts → a < amount_at amounts i)
      → list_all (is_below (call a)) after ≡ true → list_all (is_below (call a)) (map call amounts ++ after) ≡ true
  all_above a [] after less more = more
  all_above a (b ∷ rest) after less more =
      and_from _ _ (orders a b (less 0 (omega arith))) (all_above a rest after (λ i below. less (suc i) (omega (arith, below))) more)

  -- calls of ascending amounts ascend
  calls_ascend : (amounts : List ℕ) (after : List NumberCall) → Ascend amounts → ((a : ℕ) → list_all (is_below (call a)) after ≡ true)
      → are_ascending after ≡ true → are_ascending (map call amounts ++ after) ≡ true
  calls_ascend [] after up above more = more
  calls_ascend (a ∷ rest) after up above more =
      and_from _ _ (all_above a rest after (first_least a rest up) (above a)) (calls_ascend rest after (rest_ascends a rest up) above more)

-- calls of amounts that are within the greatest value
calls_within : (max : ℕ) (call : ℕ → NumberCall) → ((a : ℕ) → is_within max (call a) ≡ is_amount_up_to max a) → (amounts : List ℕ) (after : List NumberCall)
    → list_all (is_amount_up_to max) amounts ≡ true → list_all (is_within max) after ≡ true → list_all (is_within max) (map call amounts ++ after) ≡ true
calls_within max call same [] after inside more = more
calls_within max call same (a ∷ rest) after inside more =
    let both = and_parts _ _ inside in
    and_from _ _ (same a ∙ both.0) (calls_within max call same rest after both.1 more)

-- ---- takes and gives

takes_below : (a b : ℕ) → a < b → is_below (Take a) (Take b) ≡ true
takes_below a b less = grind (arith, nat_tests, less)

gives_below : (a b : ℕ) → a < b → is_below (Give a) (Give b) ≡ true
gives_below a b less = grind (arith, nat_tests, less)

-- a take is below each give
takes_before : (a : ℕ) (amounts : List ℕ) → list_all (is_below (Take a)) (map Give amounts) ≡ true
takes_before a [] = refl
takes_before a (b ∷ rest) = takes_before a rest

-- the number of good amounts that fit
pub is_number : (max : ℕ) (amounts : List ℕ) → max ≤ 4294967295 → AreNumberAmounts max amounts → NumberFits amounts → IsNumber (amounts_number max amounts)
is_number max amounts fits good few =
    let inside : list_all (is_amount_up_to max) amounts ≡ true = all-from_each max amounts good.each in
    let gives_within = rw (append-nil (map Give amounts)) at (calls_within max Give (λ a. refl) amounts [] inside refl) in
    let gives_ascend = rw (append-nil (map Give amounts)) at (calls_ascend Give gives_below amounts [] good.ascending (λ a. refl) refl) in
    let count : length (amount_calls amounts) ≡ length amounts + length amounts = length-append (map Take amounts) (map Give amounts) ∙ rw (length-map amounts Take, length-map amounts Give) refl in
    record {
      some_max = good.some_max;
      max_fits = fits;
      initial_inside = omega arith;
      amounts = calls_within max Take (λ a. refl) amounts (map Give amounts) inside gives_within;
      ascending = calls_ascend Take takes_below amounts (map Give amounts) good.ascending (λ a. takes_before a amounts) gives_ascend;
      some_call = omega (arith, count, good.some);
      calls_fit = omega (arith, count, few);
    }
