-- The last of some numbers whose outcome has a place.
use Rattle.std.proofs.Common.{◌≡◌, ℕ, zero, suc, ◌+◌, ◌<◌, ◌≤◌, List, Some, None, false, true, refl, sym, ap, subst, ◌∙◌, inl, inr, arith, Bool, if◌then◌else◌, add-suc, add-zero}
use Rattle.std.specs.Prelude.{nat_lt, ◌&&◌}
use Rattle.std.specs.Option.{option_or}
use Rattle.std.proofs.lemmas.Option.{none-some, same_Some}
use Rattle.std.proofs.lemmas.Bool.{cases_eq}
use Rattle.sqlite_value.specs.Order.{Row}
use Rattle.journal.specs.OutcomeIndex.{has_key_at, is_placed, last_number, outcome_numbered, numbered_from}

pub same-placed : (old new : List Row) (p n : ℕ) → outcome_numbered new n ≡ outcome_numbered old n → is_placed new p n ≡ is_placed old p n
unfolding is_placed
same-placed old new p n same = ap (λ o. nat_lt p numbered_from && has_key_at p o) same

-- where the outcomes are as they were
pub same-last : (old new : List Row) (p first count : ℕ) → ((n : ℕ) → first ≤ n → n < first + count → outcome_numbered new n ≡ outcome_numbered old n) → last_number new p first count ≡ last_number old p first count
unfolding last_number
same-last old new p first zero same = refl
same-last old new p first (suc count) same =
    rw (
      same-placed old new p (first + count) (same (first + count) (omega arith) (omega arith)),
      same-last old new p first count (λ n from to. same n from (omega (arith, to))),
    ) refl

-- of none there is none
pub last-zero : (rows : List Row) (p first count : ℕ) → count ≡ 0 → last_number rows p first count ≡ None
unfolding last_number
last-zero rows p first count none = ap (last_number rows p first) none

-- it is one of them, and has the place
pub record IsLast (rows : List Row) (p first count n : ℕ) : Type 0 where
  pub from : first ≤ n
  pub to : n < first + count
  pub here : is_placed rows p n ≡ true

pub last-is : (rows : List Row) (p first count n : ℕ) → last_number rows p first count ≡ Some n → IsLast rows p first count n
unfolding last_number
last-is rows p first zero n is = absurd (none-some n is)
last-is rows p first (suc count) n is = by (last-is rows p first count n) (is_placed rows p (first + count)) refl is
  where
    by : (last_number rows p first count ≡ Some n → IsLast rows p first count n) → (b : Bool) → is_placed rows p (first + count) ≡ b
        → (if b then Some (first + count) else last_number rows p first count) ≡ Some n → IsLast rows p first (suc count) n
    by more true here is = let same = same_Some (first + count) n is in record { from = omega (arith, same); to = omega (arith, same); here = subst (λ k. is_placed rows p k ≡ true) same here }
    by more false here is = let before = more is in let to = before.to in record { from = before.from; to = omega (arith, to); here = before.here }

-- where there is none, none of them has it
pub last-none : (rows : List Row) (p first count n : ℕ) → last_number rows p first count ≡ None → first ≤ n → n < first + count → is_placed rows p n ≡ false
unfolding last_number
last-none rows p first zero n none from to = absurd (omega (arith, from, to))
last-none rows p first (suc count) n none from to = by (λ none to. last-none rows p first count n none from to) (is_placed rows p (first + count)) refl none
  where
    by : (last_number rows p first count ≡ None → n < first + count → is_placed rows p n ≡ false) → (b : Bool) → is_placed rows p (first + count) ≡ b
        → (if b then Some (first + count) else last_number rows p first count) ≡ None → is_placed rows p n ≡ false
    by more true here none = absurd (none-some (first + count) (sym none))
    by more false here none = elim (cases_eq n (first + count)) [
      | inl is ↦ subst (λ k. is_placed rows p k ≡ false) (sym is) here
      | inr differs ↦ more none (omega (arith, to, differs))
    ]

-- of two runs of numbers the second has precedence
pub last-of-both : (rows : List Row) (p first a b : ℕ) → last_number rows p first (a + b) ≡ option_or (last_number rows p (first + a) b) (last_number rows p first a)
unfolding last_number
last-of-both rows p first a zero = ap (last_number rows p first) (add-zero a)
last-of-both rows p first a (suc b) = ap (last_number rows p first) (add-suc a b) ∙ by (last-of-both rows p first a b) (is_placed rows p (first + (a + b))) refl
  where
    sum : first + (a + b) ≡ first + a + b
    sum = omega arith

    by : last_number rows p first (a + b) ≡ option_or (last_number rows p (first + a) b) (last_number rows p first a) → (t : Bool) → is_placed rows p (first + (a + b)) ≡ t
        → (if is_placed rows p (first + (a + b)) then Some (first + (a + b)) else last_number rows p first (a + b))
        ≡ option_or (if is_placed rows p (first + a + b) then Some (first + a + b) else last_number rows p (first + a) b) (last_number rows p first a)
    by more true here = let there : is_placed rows p (first + a + b) ≡ true = subst (λ k. is_placed rows p k ≡ true) sum here in rw (here, there) (ap Some sum)
    by more false here = let there : is_placed rows p (first + a + b) ≡ false = subst (λ k. is_placed rows p k ≡ false) sum here in rw (here, there) more
