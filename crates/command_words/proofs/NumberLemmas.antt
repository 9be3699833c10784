-- The numbers of options.
use Rattle.std.proofs.Common.{◌≡◌, ◌∙◌, ◌<◌, ◌≤◌, ◌^◌, ap, arith, refl, subst, sym, true, false, ℕ, [], ◌∷◌}
use Rattle.std.specs.Prelude.{Option, Some, None, Result, IsSome, pos}
use Rattle.std.proofs.lemmas.Bool.{ne_eqb}
use Rattle.std.proofs.lemmas.Int.{ints}
use Rattle.std.specs.Str.Parse.{ExplainsUnsignedError, HasUnsignedDigitsIfOk, IsNumeral, ParsesUnsigned, digits_value, starts_with_minus, without_leading_plus}
use Rattle.std.proofs.lemmas.Str.Parse.{digit_from_value}
use Rattle.std.specs.declared.num.ParseIntError.{ParseIntError}
use Rattle.clap.specs.Kinds.{value_kinds}
use Rattle.clap.specs.Lexer.{without_minus}
use Rattle.clap.specs.Matches.{ReadsOne}
use Rattle.clap.specs.Values.{IsSignedIn, IsUnsignedIn}
use Rattle.clap.specs.ValueTests.{accepts}
use Rattle.clap.proofs.ValueTestLemmas.{accepts-Accepts, Accepts-accepts}
use Rattle.clap.specs.declared.builder.value_parser.ValueParser.TheVariants as parser
use Rattle.clap.specs.declared.error.kind.ErrorKind.TheVariants.{ValueValidation}
use Rattle.command_words.specs.Lines.{SpellsNumber}
use Rattle.command_words.specs.Words.{Text}
use Rattle.command_words.proofs.OptionLemmas.{by_test, never}

-- a numeral after a plus begins with no minus
pub no_minus : (text : Text) → IsNumeral 10 (without_leading_plus text) → starts_with_minus text ≡ false
no_minus [] numeral = refl
no_minus (x ∷ xs) numeral = ne_eqb x 45 (λ is. minus xs (subst (λ (y : ℕ). IsNumeral 10 (without_leading_plus (y ∷ xs))) is numeral))
  where
    minus : (rest : Text) → IsNumeral 10 (without_leading_plus (45 ∷ rest)) → ⊥
    minus rest digits = omega (arith, digit_from_value 45 digits.1.0)

-- so a typed getter reads it as it is
pub as_written : (text : Text) (n : ℕ) → SpellsNumber text n → without_minus text ≡ text
as_written [] n is = refl
as_written (x ∷ xs) n is = let plain = no_minus (x ∷ xs) is.0 in simp plain refl

-- a text that such a parser takes is a number in its range
pub signed_number : (low high : ℕ) (text : Text) → 1 ≤ low → value_kinds false (parser.Signed (pos low) (pos high)) text ≡ []
    → (n : ℕ) × SpellsNumber text n × (low ≤ n) × (n ≤ high)
signed_number low high text some none = by_test (accepts false (parser.Signed (pos low) (pos high)) text)
    (λ taken. in_range (accepts-Accepts false (parser.Signed (pos low) (pos high)) text taken))
    (λ refused. absurd (never ValueValidation [] (simp refused at none)))
  where
    in_range : IsSignedIn (pos low) (pos high) text → (n : ℕ) × SpellsNumber text n × (low ≤ n) × (n ≤ high)
    in_range is = by_test (starts_with_minus text)
        (λ minus. let least = rw minus at is.2 in absurd (omega (arith, ints, least, some)))
        (λ plain.
        let numeral : IsNumeral 10 (without_leading_plus text) = rw plain at is.0 in
        let least = rw plain at is.2 in
        let most = rw plain at is.3 in
        (digits_value 10 (without_leading_plus text), (numeral, refl), omega (arith, ints, least), omega (arith, ints, most)))

-- and a number in its range is taken
pub signed_taken : (low high n : ℕ) (text : Text) → SpellsNumber text n → low ≤ n → n ≤ high → high < 2 ^ 63
    → value_kinds false (parser.Signed (pos low) (pos high)) text ≡ []
signed_taken low high n text is least most fits = simp taken refl
  where
    plain : starts_with_minus text ≡ false
    plain = no_minus text is.0

    in_range : IsSignedIn (pos low) (pos high) text
    in_range = rw (plain, is.1) (is.0, omega (arith, ints, least, most, fits), omega (arith, ints, least), omega (arith, ints, most))

    taken : accepts false (parser.Signed (pos low) (pos high)) text ≡ true
    taken = Accepts-accepts false (parser.Signed (pos low) (pos high)) text in_range

-- the same, of a parser of unsigned numbers
pub unsigned_number : (text : Text) → value_kinds false (parser.Unsigned 0 18446744073709551615) text ≡ []
    → (n : ℕ) × SpellsNumber text n × (n < 2 ^ 64)
unsigned_number text none = by_test (accepts false (parser.Unsigned 0 18446744073709551615) text)
    (λ taken.
    let is : IsUnsignedIn 0 18446744073709551615 text = accepts-Accepts false (parser.Unsigned 0 18446744073709551615) text taken in
    (digits_value 10 (without_leading_plus text), (is.0, refl), is.1))
    (λ refused. absurd (never ValueValidation [] (simp refused at none)))

pub unsigned_taken : (n : ℕ) (text : Text) → SpellsNumber text n → n < 2 ^ 64 → value_kinds false (parser.Unsigned 0 18446744073709551615) text ≡ []
unsigned_taken n text is fits = simp taken refl
  where
    in_range : IsUnsignedIn 0 18446744073709551615 text
    in_range = (is.0, rw is.1 fits, omega arith, rw is.1 (omega (arith, fits)))

    taken : accepts false (parser.Unsigned 0 18446744073709551615) text ≡ true
    taken = Accepts-accepts false (parser.Unsigned 0 18446744073709551615) text in_range

-- what an unsigned type of k bits reads of a text
abbrev pub Gives : ℕ → Text → Result ℕ ParseIntError → Type 0
Gives k text r = ParsesUnsigned k 10 text r × ExplainsUnsignedError 10 text r × HasUnsignedDigitsIfOk text r

-- a number that fits its type is read
pub number_some : (k n : ℕ) (text : Text) (r : Option ℕ) → SpellsNumber text n → n < 2 ^ k → ReadsOne (Gives k) text r → IsSome r
number_some k n text None is fits reads = absurd (reads.1.0 (is.0, rw is.1 fits))
number_some k n text (Some m) is fits reads = refl

-- as that number
pub number_is : (k n m : ℕ) (text : Text) (r : Option ℕ) → SpellsNumber text n → ReadsOne (Gives k) text r → r ≡ Some m → m ≡ n
number_is k n m text None is reads some = absurd cc
number_is k n m text (Some v) is reads some = let same : v ≡ m = cc in sym same ∙ reads.0.1 ∙ is.1

-- so it is read as itself
pub number_read : (k n : ℕ) (text : Text) (r : Option ℕ) → SpellsNumber text n → n < 2 ^ k → ReadsOne (Gives k) text r → r ≡ Some n
number_read k n text None is fits reads = absurd (reads.1.0 (is.0, rw is.1 fits))
number_read k n text (Some v) is fits reads = ap (λ (m : ℕ). Some m) (reads.0.1 ∙ is.1)
