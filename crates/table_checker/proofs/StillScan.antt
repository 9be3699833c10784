-- A test of all states below a number.
use Rattle.std.proofs.Common.{◌≡◌, ℕ, zero, suc, ◌<◌, Bool, true, false, ◌&&◌, ◌==◌, sym, ◌∙◌, inl, inr, arith}
use Rattle.std.proofs.lemmas.Bool.{cases_Bool, false≢true, eqb-true, and_parts}
use Rattle.std.proofs.lemmas.Bool.Decides.{nat_tests}
use Rattle.table_checker.specs.Still.{all_below}

-- a test of all below holds of one
pub below-at : (n : ℕ) (test : ℕ → Bool) (s : ℕ) → all_below n test ≡ true → s < n → test s ≡ true
below-at zero test s all less = absurd (omega (arith, less))
below-at (suc n) test s all less =
    let parts = and_parts (all_below n test) (test n) all in
    elim (cases_Bool (s == n)) [
      | inl is ↦ rw (eqb-true s n is) parts.1
      | inr other ↦ below-at n test s parts.0 (let low = less in grind (arith, nat_tests, low, other))
    ]

-- and it fails where that of one does
pub below-fails : (n : ℕ) (test : ℕ → Bool) (s : ℕ) → s < n → test s ≡ false → all_below n test ≡ false
below-fails n test s less fails =
    elim (cases_Bool (all_below n test)) [
      | inl all ↦ absurd (false≢true (sym fails ∙ below-at n test s all less))
      | inr isnt ↦ isnt
    ]
