-- Amounts in the names of calls.
use Rattle.std.proofs.Common.{◌≡◌, ◌≢◌, ℕ, ◌<◌, ◌≤◌, not, ◌&&◌, ◌||◌, eqb, leb, List, ◌++◌, length, get_or, Option, Some, None, Result, Ok, Err, sym, ap, ◌∙◌, subst, inl, inr, arith}
use Rattle.std.specs.Fmt.{decimal}
use Rattle.std.specs.List.{list_all}
use Rattle.std.specs.Result.{OkIff, result_ok}
use Rattle.std.proofs.lemmas.Bool.{and_parts, leb-true, eqb-true, eq-eqb, or_cases, false≢true}
use Rattle.std.proofs.lemmas.Fmt.{decimal-digits_value}
use Rattle.std.proofs.lemmas.List.{append_cancel_left}
use Rattle.std.proofs.lemmas.Option.{cond_some, none-some, same_Some}
use Rattle.std.proofs.lemmas.Str.Parse.{digits_value_short}
use Rattle.decimals.specs.Decimals.{is_digit, number_value, is_long_number, long_number_of}
use Rattle.number_types.specs.Calls.{most_number}
use Rattle.number_types.specs.Named.{IsNamed}
use Rattle.decimals.proofs.Decimals.{digits, read_long}

-- a number that is read of a word has the word as its decimal text
pub decimal_back : (w : List ℕ) (n : ℕ) → long_number_of w ≡ Some n → decimal n ≡ w
decimal_back w n is =
    let read = cond_some (is_long_number w) (number_value w) n is in
    let parts = and_parts (leb 1 (length w) && leb (length w) 10 && list_all is_digit w) (eqb (length w) 1 || not (eqb (get_or w 0 0) 48)) read.0 in
    let front = and_parts (leb 1 (length w) && leb (length w) 10) (list_all is_digit w) parts.0 in
    let counts = and_parts (leb 1 (length w)) (leb (length w) 10) front.0 in
    let some : 0 < length w = omega (arith, leb-true 1 (length w) counts.0) in
    let few : length w ≤ 10 = leb-true (length w) 10 counts.1 in
    let low = digits_value_short digits w 10 front.1 few in
    let lead : get_or w 0 0 ≡ 48 → length w ≡ 1 = λ zero_first. elim (or_cases (eqb (length w) 1) (not (eqb (get_or w 0 0) 48)) parts.1) [
      | inl one ↦ eqb-true (length w) 1 one
      | inr other ↦ absurd (false≢true (ap not (sym (eq-eqb (get_or w 0 0) 48 zero_first)) ∙ other))
    ] in
    ap decimal (sym read.1) ∙ decimal-digits_value digits w front.1 some lead (omega (arith, low))

-- and the decimal text of one with 32 bits is read as it
pub reads_decimal : (w : List ℕ) (n : ℕ) → n ≤ most_number → decimal n ≡ w → long_number_of w ≡ Some n
reads_decimal w n low same = subst (λ digits. long_number_of digits ≡ Some n) same (read_long n low).read

-- the amount that digits are
abbrev pub IsAmountOfDigits : List ℕ → Option ℕ → Type 0
IsAmountOfDigits w o = IsNamed (λ n. n ≤ most_number) decimal w o

-- none, where they are no number
pub no_number : (w : List ℕ) → long_number_of w ≡ None → IsAmountOfDigits w None
no_number w none = record { has_name = tt; all = λ n low same. absurd (none-some n (sym none ∙ reads_decimal w n low same)) }

-- else their number, where it has 32 bits
pub number_fits : {E : Type 0} (w : List ℕ) (n : ℕ) (r : Result ℕ E) → long_number_of w ≡ Some n → OkIff r (n < 4294967296) n → IsAmountOfDigits w (result_ok r)
number_fits w n (Ok m) is fits = record {
  has_name = (omega (arith, fits.0, fits.1), ap decimal fits.1 ∙ decimal_back w n is);
  all = λ k low same. ap Some (fits.1 ∙ same_Some n k (sym is ∙ reads_decimal w k low same));
}
number_fits w n (Err e) is fits = record {
  has_name = tt;
  all = λ k low same. absurd (fits (omega (arith, low, same_Some n k (sym is ∙ reads_decimal w k low same))));
}

-- the amount after a word
abbrev IsAmountAfter : List ℕ → List ℕ → Option ℕ → Type 0
IsAmountAfter word name o = IsNamed (λ n. n ≤ most_number) (λ n. word ++ decimal n) name o

-- none, where a name doesn't begin with the word
pub other_word : (word name : List ℕ) → ((rest : List ℕ) → name ≢ word ++ rest) → IsAmountAfter word name None
other_word word name other = record { has_name = tt; all = λ n low same. absurd (other (decimal n) (sym same)) }

-- else that of the rest
pub amount_behind : (word name rest : List ℕ) (o : Option ℕ) → name ≡ word ++ rest → IsAmountOfDigits rest o → IsAmountAfter word name o
amount_behind word name rest None joined is = record { has_name = tt; all = λ n low same. is.all n low (append_cancel_left word (decimal n) rest (same ∙ joined)) }
amount_behind word name rest (Some m) joined is = record {
  has_name = (is.has_name.0, ap (λ l. word ++ l) is.has_name.1 ∙ sym joined);
  all = λ n low same. is.all n low (append_cancel_left word (decimal n) rest (same ∙ joined));
}
