-- The digits of a number of at most ten.
use Rattle.std.proofs.Common.{◌≡◌, ℕ, ◌+◌, ◌*◌, ◌^◌, ◌<◌, ◌≤◌, true, false, ◌&&◌, eqb, ltb, List, length, get_or, None, arith}
use Rattle.std.specs.List.{list_all}
use Rattle.std.proofs.lemmas.Bool.{cond-true}
use Rattle.std.proofs.Math.Nat.{pow-le-pow_right}
use Rattle.decimals.specs.Decimals.{is_digit, number_value}
use Rattle.decimals.proofs.Digits.{digits_pass, digit_more}
use Rattle.request_text.specs.Numbers.{is_request_number, request_number, short_number}

-- digits without a leading zero are a number
pub number_of-digits : (w : List ℕ) → 0 < length w → length w ≤ 10 → list_all is_digit w ≡ true → (ltb 1 (length w) && eqb (get_or w 0 0) 48) ≡ false → request_number w ≡ short_number (number_value w)
number_of-digits w some short digits plain =
    let number : is_request_number w ≡ true = digits_pass 10 w some short digits plain in
    cond-true (is_request_number w) (short_number (number_value w)) None number

-- one more digit, of at most ten, leaves the number below the next power of ten, and in 64 bits
pub digit_fits : (n i d len : ℕ) → n < 10 ^ i → i < len → len ≤ 10 → d ≤ 9 → (10 * n + d < 10 ^ (i + 1)) × (10 * n + d < 2 ^ 64)
digit_fits n i d len below within short small =
    let ten : 0 < 10 = omega arith in
    let few : i ≤ 9 = omega arith in
    let most : 10 ^ i ≤ 10 ^ 9 = pow-le-pow_right ten few in
    (digit_more n i d below small, omega arith)
