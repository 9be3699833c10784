-- The decimal text of a number is read as this number.
use Rattle.std.proofs.Common.{◌≡◌, ℕ, ◌+◌, ◌-◌, ◌*◌, ◌^◌, ◌<◌, ◌≤◌, true, not, ◌&&◌, ◌||◌, eqb, leb, List, [], ◌∷◌, length, get_or, fold, Some, None, refl, ap, ◌∙◌, inl, inr, rules, arith}
use Rattle.std.specs.Fmt.{decimal}
use Rattle.std.specs.List.{list_all}
use Rattle.std.proofs.lemmas.Bool.{and_from, and_parts, le-leb, leb-true, eq-eqb, ne_eqb, or_left, or_right, not_from_false, cases_eq, cond-true}
use Rattle.std.proofs.lemmas.Fmt.{digits_decimal, digits_value-decimal, length-decimal-le, decimal_nonempty, first_decimal, decimal_digit}
use Rattle.std.proofs.lemmas.Str.Parse.{IsNumeralModel, IsDigitsTest, FoldsDigits, numerals_by_fold}
use Rattle.decimals.specs.Decimals.{is_digit, is_number, is_long_number, number_value, IsRead, IsReadLong}

-- std's words for texts of digits, at this test of a digit
digits_tested : IsDigitsTest (λ ds. list_all is_digit ds ≡ true)
digits_tested = record {
  empty = refl;
  parts = λ c cs e. let p = and_parts (is_digit c) (list_all is_digit cs) e in let q = and_parts (leb 48 c) (leb c 57) p.0 in (search (rules, leb-true), p.1);
  more = λ c cs r e. and_from (is_digit c) (list_all is_digit cs) (and_from (leb 48 c) (leb c 57) (le-leb 48 c (search rules)) (le-leb c 57 (search rules))) e;
}

-- the value of digits after a number
abbrev value_after : ℕ → List ℕ → ℕ
value_after n w = fold (λ m b. 10 * m + (b - 48)) n w

-- it reads digits from the left
folds : FoldsDigits value_after
folds = record { empty = λ n. refl; more = λ n c cs r. ap (λ m. value_after m cs) (omega arith) }

-- a word of digits has the value that std says
pub digits : IsNumeralModel (λ ds. list_all is_digit ds ≡ true) number_value
digits = numerals_by_fold (λ ds. list_all is_digit ds ≡ true) digits_tested value_after folds

-- no leading zero
first_digit : (n : ℕ) → n < 2 ^ 64 → (eqb (length (decimal n)) 1 || not (eqb (get_or (decimal n) 0 0) 48)) ≡ true
first_digit n fits =
    elim (cases_eq n 0) [
      | inl e ↦ or_left (eqb (length (decimal n)) 1) (not (eqb (get_or (decimal n) 0 0) 48)) (eq-eqb (length (decimal n)) 1 (ap length (decimal_digit n (omega arith))))
      | inr e ↦ or_right (eqb (length (decimal n)) 1) (not (eqb (get_or (decimal n) 0 0) 48)) (not_from_false (eqb (get_or (decimal n) 0 0) 48) (ne_eqb (get_or (decimal n) 0 0) 48 (λ same. omega (arith, first_decimal n (omega arith) fits))))
    ]

-- a decimal text of at most this many digits passes the test of such a number
decimal_passes : (most n : ℕ) → n < 2 ^ 64 → length (decimal n) ≤ most →
    (leb 1 (length (decimal n)) && leb (length (decimal n)) most && list_all is_digit (decimal n) && (eqb (length (decimal n)) 1 || not (eqb (get_or (decimal n) 0 0) 48))) ≡ true
decimal_passes most n fits short =
    let some = le-leb 1 (length (decimal n)) (decimal_nonempty n fits) in
    let few = le-leb (length (decimal n)) most short in
    and_from (leb 1 (length (decimal n)) && leb (length (decimal n)) most && list_all is_digit (decimal n)) (eqb (length (decimal n)) 1 || not (eqb (get_or (decimal n) 0 0) 48))
    (and_from (leb 1 (length (decimal n)) && leb (length (decimal n)) most) (list_all is_digit (decimal n)) (and_from (leb 1 (length (decimal n))) (leb (length (decimal n)) most) some few) (digits_decimal digits n fits))
    (first_digit n fits)

-- a number below 10,000,000 is read again
pub read_short : (n : ℕ) → n < 10 ^ 7 → IsRead n
read_short n below =
    let fits : n < 2 ^ 64 = omega arith in
    let short = length-decimal-le 7 n (omega arith) below fits in
    record {
      read = cond-true (is_number (decimal n)) (Some (number_value (decimal n))) None (decimal_passes 7 n fits short) ∙ ap Some (digits_value-decimal digits n fits);
      some = decimal_nonempty n fits;
      digits = digits_decimal digits n fits;
      short = short;
    }

-- and so is one of 32 bits
pub read_long : (n : ℕ) → n ≤ 4294967295 → IsReadLong n
read_long n below =
    let fits : n < 2 ^ 64 = omega arith in
    let less : n < 10 ^ 10 = omega arith in
    let short = length-decimal-le 10 n (omega arith) less fits in
    record {
      read = cond-true (is_long_number (decimal n)) (Some (number_value (decimal n))) None (decimal_passes 10 n fits short) ∙ ap Some (digits_value-decimal digits n fits);
      some = decimal_nonempty n fits;
      digits = digits_decimal digits n fits;
      short = short;
    }
