-- The words of long options.
use Rattle.std.proofs.Common.{◌≡◌, ◌≢◌, ◌∙◌, ◌++◌, ◌<◌, ◌==◌, ap, arith, length, refl, sym, take, true, false, ℕ, [], ◌∷◌}
use Rattle.std.specs.Prelude.{codes, Some, None, Option, slice_index}
use Rattle.std.specs.List.{after_first, before_first, position_or_len}
use Rattle.std.specs.Str.{bytes_eq}
use Rattle.std.proofs.lemmas.Bool.{eqb-true}
use Rattle.std.proofs.lemmas.List.{take_all}
use Rattle.std.proofs.lemmas.List.Sums.{passes_at_first, split_at_first}
use Rattle.clap.specs.Lexer.{has_byte, long_of, name_and_value}
use Rattle.command_words.specs.Words.{Text}
use Rattle.command_words.proofs.OptionLemmas.{by_test}

-- ---- cut at the first `=`

-- where there is one, it has a place
cut_place : (text : Text) → has_byte 61 text ≡ true → position_or_len (λ x. x == 61) text < length text
cut_place [] has = absurd cc
cut_place (x ∷ xs) has = by_test (x == 61)
    (λ is. simp is (omega arith))
    (λ other. let later = cut_place xs (simp other at has) in simp other (omega (arith, later)))

-- and joins what comes before it and after it
cut_joined : (text : Text) → has_byte 61 text ≡ true → before_first (λ x. x == 61) text ++ 61 ∷ after_first (λ x. x == 61) text ≡ text
cut_joined text has =
    let lt = cut_place text has in
    let at_cut = eqb-true _ 61 (passes_at_first (λ x. x == 61) text 0 lt) in
    ap (λ (c : ℕ). before_first (λ x. x == 61) text ++ c ∷ after_first (λ x. x == 61) text) (sym at_cut) ∙ sym (split_at_first (λ x. x == 61) text 0 lt)

-- where there is none, all comes before it
no_place : (text : Text) → has_byte 61 text ≡ false → position_or_len (λ x. x == 61) text ≡ length text
no_place [] lacks = refl
no_place (x ∷ xs) lacks = by_test (x == 61)
    (λ is. let bad : true ≡ false = simp is at lacks in absurd cc)
    (λ other. let later = no_place xs (simp other at lacks) in simp other (omega (arith, later)))

uncut : (text : Text) → has_byte 61 text ≡ false → before_first (λ x. x == 61) text ≡ text
uncut text lacks = ap (λ n. take n text) (no_place text lacks) ∙ take_all (length text) text (omega arith)

-- ---- the words

-- the name and the value as they were written
abbrev pub long_text : Text → Option Text → Text
long_text name None = name
long_text name (Some value) = name ++ (codes "=" ++ value)

-- what was cut is put together again
rejoined : (text : Text) → long_text (name_and_value text).0 (name_and_value text).1 ≡ text
rejoined text = by_test (has_byte 61 text) (λ has. simp has (cut_joined text has)) (λ lacks. simp lacks (uncut text lacks))

-- what isn't there is nothing
nothing : (p : Text × Option Text) → None ≡ Some p → ⊥
nothing p is = cc

-- a long option is the text of its name and its value after two hyphens
pub long_word : (word name : Text) (value : Option Text) → long_of word ≡ Some (name, value) → codes "--" ++ long_text name value ≡ word
long_word [] name value is = absurd cc
long_word (x ∷ []) name value is = by_test (x == 45)
    (λ dash. absurd (nothing _ (simp dash at is)))
    (λ other. absurd (nothing _ (simp other at is)))
long_word (x ∷ y ∷ rest) name value is = by_test (x == 45)
    (λ dash. by_test (y == 45) (λ again. two_dashes rest dash again is)
    (λ other. absurd (nothing _ (simp (dash, other) at is))))
    (λ other. absurd (nothing _ (simp other at is)))
  where
    two_dashes : (text : Text) → (x == 45) ≡ true → (y == 45) ≡ true → long_of (x ∷ y ∷ text) ≡ Some (name, value) → codes "--" ++ long_text name value ≡ x ∷ y ∷ text
    two_dashes [] dash again is = absurd (nothing _ (simp (dash, again) at is))
    two_dashes (z ∷ zs) dash again is =
        let cut : Some (name_and_value (z ∷ zs)) ≡ Some (name, value) = simp (dash, again) at is in
        let parts : name_and_value (z ∷ zs) ≡ (name, value) = cc in
        let text_is = ap (λ (p : Text × Option Text). long_text p.0 p.1) (sym parts) ∙ rejoined (z ∷ zs) in
        let x_is = eqb-true x 45 dash in
        let y_is = eqb-true y 45 again in
        rw (x_is, y_is) (ap (λ (t : Text). 45 ∷ 45 ∷ t) text_is)

-- a word that is no long option, nor `--`, doesn't begin with two hyphens
pub not_long : (word : Text) → long_of word ≡ None → bytes_eq word (codes "--") ≡ false → slice_index word 0 ≡ 45 → slice_index word 1 ≢ 45
not_long [] none other first second = absurd (omega (arith, first))
not_long (x ∷ []) none other first second = absurd (omega (arith, second))
not_long (x ∷ y ∷ []) none other first second = let bad : true ≡ false = rw (first, second) at other in absurd cc
not_long (x ∷ y ∷ z ∷ zs) none other first second = let bad : Some (name_and_value (z ∷ zs)) ≡ None = rw (first, second) at none in absurd cc
