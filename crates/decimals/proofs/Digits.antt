-- The digits of a number, and the tests that they pass.
use Rattle.std.proofs.Common.{◌≡◌, ℕ, ◌+◌, ◌*◌, ◌^◌, ◌<◌, ◌≤◌, true, false, not, ◌&&◌, ◌||◌, eqb, leb, ltb, List, length, get_or, Some, None, add-one, inl, inr, arith}
use Rattle.std.specs.List.{list_all}
use Rattle.std.proofs.lemmas.Bool.{and_parts, and_from, leb-true, le-leb, lt-ltb, eq-eqb, or_left, or_right, not_from_false, cases_eq, cond-true}
use Rattle.std.proofs.Math.Nat.{pow-le-pow_right, pow-suc}
use Rattle.decimals.specs.Decimals.{is_digit, is_number, is_long_number, number_value, number_of, long_number_of}

-- a digit's byte
pub digit_range : (b : ℕ) → is_digit b ≡ true → (48 ≤ b) × (b ≤ 57)
digit_range b e =
    let p = and_parts (leb 48 b) (leb b 57) e in
    (leb-true 48 b p.0, leb-true b 57 p.1)

-- at most this many digits without a leading zero pass the test of such a number
pub digits_pass : (most : ℕ) (w : List ℕ) → 0 < length w → length w ≤ most → list_all is_digit w ≡ true → (ltb 1 (length w) && eqb (get_or w 0 0) 48) ≡ false →
    (leb 1 (length w) && leb (length w) most && list_all is_digit w && (eqb (length w) 1 || not (eqb (get_or w 0 0) 48))) ≡ true
digits_pass most w some short digits plain =
    let no_zero : (eqb (length w) 1 || not (eqb (get_or w 0 0) 48)) ≡ true =
    elim (cases_eq (length w) 1) [
      | inl e ↦ or_left (eqb (length w) 1) (not (eqb (get_or w 0 0) 48)) (eq-eqb (length w) 1 e)
      | inr e ↦
          let more : ltb 1 (length w) ≡ true = lt-ltb 1 (length w) (omega arith) in
          let other : eqb (get_or w 0 0) 48 ≡ false = rw more at plain in
          or_right (eqb (length w) 1) (not (eqb (get_or w 0 0) 48)) (not_from_false (eqb (get_or w 0 0) 48) other)
    ] in
    and_from (leb 1 (length w) && leb (length w) most && list_all is_digit w) (eqb (length w) 1 || not (eqb (get_or w 0 0) 48))
    (and_from (leb 1 (length w) && leb (length w) most) (list_all is_digit w) (and_from (leb 1 (length w)) (leb (length w) most) (le-leb 1 (length w) some) (le-leb (length w) most short)) digits)
    no_zero

-- so they are a number
pub number_of-digits : (w : List ℕ) → 0 < length w → length w ≤ 7 → list_all is_digit w ≡ true → (ltb 1 (length w) && eqb (get_or w 0 0) 48) ≡ false → number_of w ≡ Some (number_value w)
number_of-digits w some short digits plain =
    let number : is_number w ≡ true = digits_pass 7 w some short digits plain in
    cond-true (is_number w) (Some (number_value w)) None number

-- and a long one
pub long_number_of-digits : (w : List ℕ) → 0 < length w → length w ≤ 10 → list_all is_digit w ≡ true → (ltb 1 (length w) && eqb (get_or w 0 0) 48) ≡ false → long_number_of w ≡ Some (number_value w)
long_number_of-digits w some short digits plain =
    let number : is_long_number w ≡ true = digits_pass 10 w some short digits plain in
    cond-true (is_long_number w) (Some (number_value w)) None number

-- one more digit leaves a number below the next power of ten
pub digit_more : (n i d : ℕ) → n < 10 ^ i → d ≤ 9 → 10 * n + d < 10 ^ (i + 1)
digit_more n i d below small = rw (add-one, pow-suc) (omega arith)

-- and one of at most seven digits in 32 bits
pub digit_fits : (n i d len : ℕ) → n < 10 ^ i → i < len → len ≤ 7 → d ≤ 9 → (10 * n + d < 10 ^ (i + 1)) × (10 * n + d < 2 ^ 32)
digit_fits n i d len below within short small =
    let ten : 0 < 10 = omega arith in
    let few : i ≤ 6 = omega arith in
    let most : 10 ^ i ≤ 10 ^ 6 = pow-le-pow_right ten few in
    (digit_more n i d below small, omega arith)

-- and one of at most ten in 64 bits
pub long_digit_fits : (n i d len : ℕ) → n < 10 ^ i → i < len → len ≤ 10 → d ≤ 9 → (10 * n + d < 10 ^ (i + 1)) × (10 * n + d < 2 ^ 64)
long_digit_fits n i d len below within short small =
    let ten : 0 < 10 = omega arith in
    let few : i ≤ 9 = omega arith in
    let most : 10 ^ i ≤ 10 ^ 9 = pow-le-pow_right ten few in
    (digit_more n i d below small, omega arith)
