-- The words of a line say it.
use Rattle.std.proofs.Common.{◌≡◌, ℕ, ◌≤◌, Bool, true, false, ◌&&◌, eqb, leb, List, [], ◌∷◌, refl, ap, arith}
use Rattle.std.specs.Prelude.{codes}
use Rattle.std.specs.Fmt.{decimal}
use Rattle.std.specs.List.{list_all}
use Rattle.std.specs.Str.{bytes_eq}
use Rattle.std.proofs.lemmas.Bool.{le-leb, leb-true, ne_eqb, and_parts}
use Rattle.type_table.specs.Name.{is_name}
use Rattle.decimals.specs.Decimals.{is_digit}
use Rattle.line_text.specs.Shapes.{exactly, name_at, is_key}
use Rattle.line_text.specs.Spelling.{Spells, NameIsWord}
use Rattle.line_text.proofs.Items.{keyword, length-spaced}
use Rattle.number_types.specs.declared.number_call.NumberCall.{NumberCall}
use Rattle.number_types.specs.declared.number_call.NumberCall.TheVariants.{Take, TakeAny, Give, GiveAny, AtLeast, Value}
use Rattle.number_text.specs.declared.number_line.NumberLine.TheVariants.{Called, Max, Initial, Call, End}
use Rattle.line_text.specs.LongNumbers.{long_number_at}
use Rattle.number_text.specs.NumberLines.{line_of, called_of, numbered_of, says_any, any_or_numbered, bare_of, number_rules}
use Rattle.number_types.specs.Calls.{is_amount, is_within}
use Rattle.number_text.specs.Canonical.{words_of, call_words}
use Rattle.decimals.proofs.Digits.{digit_range}
use Rattle.decimals.proofs.Decimals.{read_long}
use Rattle.line_text.proofs.Decimals.{long_is_word}

-- digits aren't `any`
not_any : (w : List ℕ) → list_all is_digit w ≡ true → bytes_eq w (codes "any") ≡ false
not_any [] h = refl
not_any (b ∷ w) h = not_a b (and_parts (is_digit b) (list_all is_digit w) h).0
  where
    not_a : (b : ℕ) → is_digit b ≡ true → bytes_eq (b ∷ w) (codes "any") ≡ false
    not_a b e =
        let high : b ≤ 57 = (digit_range b e).1 in
        let other : eqb b 97 ≡ false = ne_eqb b 97 (λ same. omega (arith, same, high)) in
        ap (λ (same : Bool). same && bytes_eq w (codes "ny")) other

-- the words of the first line
pub name_spells : ((w : List ℕ) → NameIsWord w) → (name : List ℕ) → is_name name ≡ true → Spells number_rules (Called name) (words_of (Called name))
unfolding line_of called_of exactly name_at is_key
name_spells names name named =
    let word = names name named in
    record {
      some = omega arith;
      each = (keyword (codes "number") refl refl, (word.0, tt));
      no_comment = λ e. omega (arith, e);
      short = omega (arith, length-spaced (codes "number") name [], word.1);
      said = rw named refl;
    }

-- those of a `max` line
pub max_spells : (n : ℕ) → n ≤ 4294967295 → Spells number_rules (Max n) (words_of (Max n))
unfolding line_of numbered_of exactly long_number_at is_key
max_spells n small =
    let number = read_long n small in
    record {
      some = omega arith;
      each = (keyword (codes "max") refl refl, (long_is_word n small, tt));
      no_comment = λ e. omega (arith, e);
      short = omega (arith, length-spaced (codes "max") (decimal n) [], number.short);
      said = rw (number.read, le-leb n 4294967295 small) refl;
    }

-- those of an `initial` line
pub initial_spells : (n : ℕ) → n ≤ 4294967295 → Spells number_rules (Initial n) (words_of (Initial n))
unfolding line_of numbered_of exactly long_number_at is_key
initial_spells n small =
    let number = read_long n small in
    record {
      some = omega arith;
      each = (keyword (codes "initial") refl refl, (long_is_word n small, tt));
      no_comment = λ e. omega (arith, e);
      short = omega (arith, length-spaced (codes "initial") (decimal n) [], number.short);
      said = rw (number.read, le-leb n 4294967295 small) refl;
    }

-- those of the lines of calls
take_spells : (n : ℕ) → n ≤ 4294967295 → Spells number_rules (Call (Take n)) (call_words (Take n))
unfolding line_of any_or_numbered says_any numbered_of exactly long_number_at is_key
take_spells n small =
    let number = read_long n small in
    record {
      some = omega arith;
      each = (keyword (codes "take") refl refl, (long_is_word n small, tt));
      no_comment = λ e. omega (arith, e);
      short = omega (arith, length-spaced (codes "take") (decimal n) [], number.short);
      said = rw (not_any (decimal n) number.digits, number.read, le-leb n 4294967295 small) refl;
    }

give_spells : (n : ℕ) → n ≤ 4294967295 → Spells number_rules (Call (Give n)) (call_words (Give n))
unfolding line_of any_or_numbered says_any numbered_of exactly long_number_at is_key
give_spells n small =
    let number = read_long n small in
    record {
      some = omega arith;
      each = (keyword (codes "give") refl refl, (long_is_word n small, tt));
      no_comment = λ e. omega (arith, e);
      short = omega (arith, length-spaced (codes "give") (decimal n) [], number.short);
      said = rw (not_any (decimal n) number.digits, number.read, le-leb n 4294967295 small) refl;
    }

at_least_spells : (n : ℕ) → n ≤ 4294967295 → Spells number_rules (Call (AtLeast n)) (call_words (AtLeast n))
unfolding line_of numbered_of exactly long_number_at is_key
at_least_spells n small =
    let number = read_long n small in
    record {
      some = omega arith;
      each = (keyword (codes "atleast") refl refl, (long_is_word n small, tt));
      no_comment = λ e. omega (arith, e);
      short = omega (arith, length-spaced (codes "atleast") (decimal n) [], number.short);
      said = rw (number.read, le-leb n 4294967295 small) refl;
    }

take_any_spells : Spells number_rules (Call TakeAny) (call_words TakeAny)
unfolding line_of any_or_numbered says_any is_key
take_any_spells = record {
  some = omega arith;
  each = (keyword (codes "take") refl refl, (keyword (codes "any") refl refl, tt));
  no_comment = λ e. omega (arith, e);
  short = omega arith;
  said = refl;
}

give_any_spells : Spells number_rules (Call GiveAny) (call_words GiveAny)
unfolding line_of any_or_numbered says_any is_key
give_any_spells = record {
  some = omega arith;
  each = (keyword (codes "give") refl refl, (keyword (codes "any") refl refl, tt));
  no_comment = λ e. omega (arith, e);
  short = omega arith;
  said = refl;
}

value_spells : Spells number_rules (Call Value) (call_words Value)
unfolding line_of bare_of exactly is_key
value_spells = record {
  some = omega arith;
  each = (keyword (codes "value") refl refl, tt);
  no_comment = λ e. omega (arith, e);
  short = omega arith;
  said = refl;
}

pub end_spells : Spells number_rules End (words_of End)
unfolding line_of bare_of exactly is_key
end_spells = record {
  some = omega arith;
  each = (keyword (codes "end") refl refl, tt);
  no_comment = λ e. omega (arith, e);
  short = omega arith;
  said = refl;
}

-- an amount in range is at most the greatest value
amount_below : (max k : ℕ) → is_amount max k ≡ true → k ≤ max
amount_below max k h = leb-true k max (and_parts (leb 1 k) (leb k max) h).1

-- a call whose amount is within the greatest value is said by its words
pub call_spells : (max : ℕ) → max ≤ 4294967295 → (c : NumberCall) → is_within max c ≡ true → Spells number_rules (Call c) (call_words c)
call_spells max fits (Take k) h = take_spells k (omega (arith, fits, amount_below max k h))
call_spells max fits TakeAny h = take_any_spells
call_spells max fits (Give k) h = give_spells k (omega (arith, fits, amount_below max k h))
call_spells max fits GiveAny h = give_any_spells
call_spells max fits (AtLeast k) h = at_least_spells k (omega (arith, fits, amount_below max k h))
call_spells max fits Value h = value_spells
