-- The least number that passes a test, found by going up, and the greatest.
use Rattle.std.proofs.Common.{◌≡◌, ℕ, zero, suc, ◌<◌, ◌≤◌, Bool, true, false, Option, Some, None, refl, sym, ap, ◌∙◌, subst, inl, inr, arith}
use Rattle.std.specs.Option.{option_or}
use Rattle.std.proofs.lemmas.Bool.{cases_eq}
use Rattle.type_table.specs.Least.{found_or, first_below, last_below}

-- what is found below k is found below each larger number
first_below-stays : (test : ℕ → Bool) (k j n : ℕ) → first_below k test ≡ Some j → k ≤ n → first_below n test ≡ Some j
first_below-stays test k j zero found le = let same : k ≡ zero = omega (arith, le) in subst (λ m. first_below m test ≡ Some j) same found
first_below-stays test k j (suc n) found le =
    elim (cases_eq k (suc n)) [
      | inl same ↦ subst (λ m. first_below m test ≡ Some j) same found
      | inr less ↦ rw (first_below-stays test k j n found (omega (arith, le, less))) refl
    ]

-- what was found before is kept, and else a number that passes is found
pub found_or_true : (found : Option ℕ) (n : ℕ) → found_or found true n ≡ option_or found (Some n)
found_or_true (Some k) n = refl
found_or_true None n = refl

-- and one that doesn't isn't
pub found_or_false : (found : Option ℕ) (n : ℕ) → found_or found false n ≡ found
found_or_false (Some k) n = refl
found_or_false None n = refl

-- a stretch in which none passes changes nothing
pub first_below-skip : (test : ℕ → Bool) (done n : ℕ) → done ≤ n → ((q : ℕ) → done ≤ q → q < n → test q ≡ false) → first_below n test ≡ first_below done test
first_below-skip test done zero le none = let same : done ≡ zero = omega (arith, le) in ap (λ m. first_below m test) (sym same)
first_below-skip test done (suc n) le none =
    elim (cases_eq done (suc n)) [
      | inl same ↦ ap (λ m. first_below m test) (sym same)
      | inr less ↦
          let below : done ≤ n = omega (arith, le, less) in
          ap (λ passes. found_or (first_below n test) passes n) (none n below (omega arith))
          ∙ found_or_false (first_below n test) n
          ∙ first_below-skip test done n below (λ q from to. none q from (omega (arith, to)))
    ]

-- k passes, and none below it does
pub first_below-found : (test : ℕ → Bool) (k n : ℕ) → first_below k test ≡ None → test k ≡ true → k < n → first_below n test ≡ Some k
first_below-found test k n none passes below =
    let found : first_below (suc k) test ≡ Some k = rw (none, passes) refl in
    first_below-stays test (suc k) k n found (omega (arith, below))

-- what is found is below
below_or : (n k : ℕ) (found : Option ℕ) (passes : Bool) → ((j : ℕ) → found ≡ Some j → j < n) → found_or found passes n ≡ Some k → k < suc n
below_or n k (Some j) passes below is = let low : k < n = below k is in omega (arith, low)
below_or n k None true below is = let same : n ≡ k = cc in omega (arith, same)
below_or n k None false below is = cc

-- below the number that the search goes up to
first_below-below : (test : ℕ → Bool) (n k : ℕ) → first_below n test ≡ Some k → k < n
first_below-below test zero k is = cc
first_below-below test (suc n) k is = below_or n k (first_below n test) (test n) (first_below-below test n) is

-- also where it has a name
pub found_below : (test : ℕ → Bool) (n k : ℕ) (found : Option ℕ) → found ≡ first_below n test → found ≡ Some k → k < n
found_below test n k found found_is is = first_below-below test n k (sym found_is ∙ is)

-- what is found passes
true_or : (test : ℕ → Bool) (n k : ℕ) (found : Option ℕ) (passes : Bool) → test n ≡ passes → (found ≡ Some k → test k ≡ true) → found_or found passes n ≡ Some k → test k ≡ true
true_or test n k (Some j) passes named before is = before is
true_or test n k None true named before is = let same : n ≡ k = cc in ap test (sym same) ∙ named
true_or test n k None false named before is = cc

pub first_below-passes : (test : ℕ → Bool) (n k : ℕ) → first_below n test ≡ Some k → test k ≡ true
first_below-passes test zero k is = cc
first_below-passes test (suc n) k is = true_or test n k (first_below n test) (test n) refl (first_below-passes test n k) is

-- also where it has a name
pub found_true : (test : ℕ → Bool) (n k : ℕ) (found : Option ℕ) → found ≡ first_below n test → found ≡ Some k → test k ≡ true
found_true test n k found found_is is = first_below-passes test n k (sym found_is ∙ is)

-- where none passes nothing is found
pub first_below-none : (test : ℕ → Bool) (n : ℕ) → ((q : ℕ) → q < n → test q ≡ false) → first_below n test ≡ None
first_below-none test n none = first_below-skip test 0 n (omega arith) (λ q from to. none q to)

pub last_below-none : (test : ℕ → Bool) (n : ℕ) → ((q : ℕ) → q < n → test q ≡ false) → last_below n test ≡ None
last_below-none test zero none = refl
last_below-none test (suc n) none = rw (none n (omega arith)) (last_below-none test n (λ q to. none q (omega (arith, to))))

-- k passes, and none above it does
pub last_below-found : (test : ℕ → Bool) (k n : ℕ) → test k ≡ true → k < n → ((q : ℕ) → k < q → q < n → test q ≡ false) → last_below n test ≡ Some k
last_below-found test k zero passes inside none = absurd (omega (arith, inside))
last_below-found test k (suc n) passes inside none =
    elim (cases_eq k n) [
      | inl same ↦ rw (ap test (sym same) ∙ passes) (ap (λ (m : ℕ). Some m) (sym same))
      | inr less ↦ rw (none n (omega (arith, inside, less)) (omega arith)) (last_below-found test k n passes (omega (arith, inside, less)) (λ q from to. none q from (omega (arith, to))))
    ]
