-- A number's digits say it, and are the digits that std writes.
use Rattle.std.proofs.Common.{◌≡◌, refl, sym, ap, ℕ, zero, suc, ◌+◌, ◌-◌, ◌<◌, ◌≤◌, ◌^◌, List, [], ◌∷◌, ◌++◌, get_or, map, Result, Ok, Err, cond, lit<, lit≤, arith, ◌∙◌}
use Rattle.std.specs.Fmt.{decimal}
use Rattle.std.specs.Prelude.{OnOk, is_ok}
use Rattle.std.specs.List.{AllByRecursion, join_with_byte}
use Rattle.outputs.specs.Numbers.{numbers_line}
use Rattle.std.specs.Int.Digits.{digits_of, number_from_digits, AllBelowBase}
use Rattle.std.proofs.lemmas.Int.Digits.{number_digits_of, all_below_base_digits_of}
use Rattle.std.proofs.lemmas.Fmt.{decimal-digits_of, decimal_digit}
use Rattle.event_text.specs.EventText.{numeral, numerals_line, number_said}

-- what the bytes of digits say
said : (ds : List ℕ) → map (λ b. b - 48) (map (λ d. 48 + d) ds) ≡ ds
said [] = refl
said (d ∷ ds) =
    let one : 48 + d - 48 ≡ d = omega arith in
    ap (λ first. first ∷ map (λ b. b - 48) (map (λ d. 48 + d) ds)) one ∙ ap (λ more. d ∷ more) (said ds)

pub numeral-said : (n : ℕ) → number_said (numeral n) ≡ n
numeral-said zero = refl
numeral-said (suc n) = ap (number_from_digits 10) (said (digits_of 10 (suc n))) ∙ number_digits_of 10 (suc n) (lit≤ tt)

-- of several numbers
pub numerals-said : (ns : List ℕ) → map number_said (map numeral ns) ≡ ns
numerals-said [] = refl
numerals-said (n ∷ ns) = ap (λ first. first ∷ map number_said (map numeral ns)) (numeral-said n) ∙ ap (λ more. n ∷ more) (numerals-said ns)

-- digits are bytes above a space
digits-above : (ds : List ℕ) → AllBelowBase 10 ds → AllByRecursion (λ b. 32 < b) (map (λ d. 48 + d) ds)
digits-above [] below = tt
digits-above (d ∷ ds) below = (omega arith, digits-above ds below.1)

pub numeral-above : (n : ℕ) → AllByRecursion (λ b. 32 < b) (numeral n)
numeral-above zero = (lit< tt, tt)
numeral-above (suc n) = digits-above (digits_of 10 (suc n)) (all_below_base_digits_of 10 (suc n) (lit≤ tt))

-- std writes the same
pub numeral-decimal : (n : ℕ) → n < 2 ^ 64 → decimal n ≡ numeral n
numeral-decimal zero small = decimal_digit 0 (lit< tt)
numeral-decimal (suc n) small = decimal-digits_of (suc n) (omega arith) small

-- of several numbers
numerals-decimals : (ns : List ℕ) → ((i : ℕ) → get_or ns i 0 < 2 ^ 32) → map decimal ns ≡ map numeral ns
numerals-decimals [] small = refl
numerals-decimals (n ∷ ns) small =
    ap (λ first. first ∷ map decimal ns) (numeral-decimal n (omega (arith, small 0))) ∙ ap (λ more. numeral n ∷ more) (numerals-decimals ns (λ i. small (suc i)))

-- and of a line
pub same-line : (keyword : List ℕ) (ns : List ℕ) → ((i : ℕ) → get_or ns i 0 < 2 ^ 32) → numbers_line keyword ns ≡ numerals_line keyword ns
same-line keyword ns small = ap (λ words. join_with_byte 32 (keyword ∷ words) ++ 10 ∷ []) (numerals-decimals ns small)

-- a line that was put behind a text
pub put-line : {T E : Type 0} (r : Result T E) (old new line other : List ℕ) → new ≡ cond (is_ok r) (old ++ line) old → line ≡ other → OnOk r (new ≡ old ++ other)
put-line (Ok x) old new line other put same = put ∙ ap (λ more. old ++ more) same
put-line (Err x) old new line other put same = tt
