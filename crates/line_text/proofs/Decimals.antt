-- Decimal texts and names as words of a line.
use Rattle.std.proofs.Common.{◌≡◌, ℕ, ◌+◌, ◌-◌, ◌*◌, ◌^◌, ◌<◌, ◌≤◌, true, not, ◌&&◌, ◌||◌, eqb, leb, List, [], ◌∷◌, length, get_or, fold, Some, None, refl, ap, ◌∙◌, inl, inr, rules, arith}
use Rattle.std.specs.Fmt.{decimal}
use Rattle.std.specs.List.{AllByRecursion, list_all}
use Rattle.std.proofs.lemmas.Bool.{and_from, and_parts, le-leb, leb-true, eq-eqb, ne_eqb, or_left, or_right, not_from_false, cases_eq, cond-true}
use Rattle.std.proofs.lemmas.Bool.Decides.{nat_tests}
use Rattle.std.proofs.lemmas.Fmt.{digits_decimal, digits_value-decimal, length-decimal-le, decimal_nonempty, first_decimal, decimal_digit}
use Rattle.std.proofs.lemmas.Str.Parse.{IsNumeralModel, IsDigitsTest, FoldsDigits, numerals_by_fold}
use Rattle.decimals.specs.Decimals.{is_digit}
use Rattle.decimals.proofs.Decimals.{read_short, read_long}
use Rattle.line_text.specs.Spelling.{IsWord, NumberIsReadAgain, NameIsWord}
use Rattle.type_table.specs.Name.{is_name, is_name_byte}

-- digits may be in a word
digits_in_word : (w : List ℕ) → list_all is_digit w ≡ true → AllByRecursion (λ b. (33 ≤ b) × (b ≤ 126)) w
digits_in_word [] e = tt
digits_in_word (b ∷ w) e =
    let p = and_parts (is_digit b) (list_all is_digit w) e in
    let q = and_parts (leb 48 b) (leb b 57) p.0 in
    ((omega (arith, leb-true 48 b q.0), omega (arith, leb-true b 57 q.1)), digits_in_word w p.1)

-- digits are a word
digits_are_word : (w : List ℕ) → 0 < length w → list_all is_digit w ≡ true → IsWord w
digits_are_word w some digits = (some, digits_in_word w digits)

-- a number below 10,000,000 is read again
pub NumberIsReadAgain-always : (n : ℕ) → n < 10 ^ 7 → NumberIsReadAgain n
NumberIsReadAgain-always n below =
    let number = read_short n below in
    record { read = number.read; is_word = digits_are_word (decimal n) number.some number.digits; short = number.short }

-- the digits of a number of 32 bits are a word
pub long_is_word : (n : ℕ) → n ≤ 4294967295 → IsWord (decimal n)
long_is_word n below =
    let number = read_long n below in
    digits_are_word (decimal n) number.some number.digits

-- a name's bytes may be in a word
names_in_word : (w : List ℕ) → list_all is_name_byte w ≡ true → AllByRecursion (λ b. (33 ≤ b) × (b ≤ 126)) w
names_in_word [] e = tt
names_in_word (b ∷ w) e =
    let p = and_parts (is_name_byte b) (list_all is_name_byte w) e in
    (name_byte b p.0, names_in_word w p.1)
  where
    name_byte : (b : ℕ) → is_name_byte b ≡ true → (33 ≤ b) × (b ≤ 126)
    name_byte b e = (grind (arith, nat_tests), grind (arith, nat_tests))

-- a name is a word
pub NameIsWord-always : (w : List ℕ) → NameIsWord w
unfolding is_name
NameIsWord-always w e =
    let a = and_parts (leb 1 (length w) && leb (length w) 32) (list_all is_name_byte w) e in
    let b = and_parts (leb 1 (length w)) (leb (length w) 32) a.0 in
    ((leb-true 1 (length w) b.0, names_in_word w a.1), leb-true (length w) 32 b.1)
