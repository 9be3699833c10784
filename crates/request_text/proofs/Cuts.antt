-- The first word of a text, and those behind it.
use Rattle.std.proofs.Common.{◌≡◌, ◌∙◌, ℕ, ◌+◌, ◌≤◌, Bool, true, false, eqb, ltb, cond, List, [], ◌∷◌, length, take, drop, ◌-◌, length-drop, position, Some, None, refl, sym, ap, arith}
use Rattle.std.proofs.lemmas.Bool.{ltb-true, ltb-false}
use Rattle.std.proofs.lemmas.Option.{cond_some}
use Rattle.std.proofs.lemmas.List.{take_all}
use Rattle.std.proofs.lemmas.List.Splits.{slice_split_first}
use Rattle.std.specs.List.{position_or_len, slice_split}
use Rattle.request_text.specs.Requests.{words_between}

abbrev is_space : ℕ → Bool
is_space b = eqb b 32

none-is : (b : Bool) (n : ℕ) → cond b (Some n) None ≡ None → b ≡ false
none-is true n e = absurd cc
none-is false n e = refl

one-part : (xs : List ℕ) → length xs ≤ position_or_len is_space xs → slice_split is_space xs ≡ xs ∷ []
one-part [] none = refl
one-part (x ∷ xs) none = go (is_space x) refl (λ h. one-part xs h) none
  where
    go : (b : Bool) → is_space x ≡ b → (length xs ≤ position_or_len is_space xs → slice_split is_space xs ≡ xs ∷ []) → length (x ∷ xs) ≤ position_or_len is_space (x ∷ xs) → slice_split is_space (x ∷ xs) ≡ (x ∷ xs) ∷ []
    go true e rest h = absurd (omega (arith, simp e at h))
    go false e rest h = rw e (rw (rest (omega (arith, simp e at h))) refl)

-- without a space it is one word
pub only-word : (text : List ℕ) → position is_space text ≡ None → words_between text ≡ text ∷ []
only-word text none = let place = position_or_len is_space text in one-part text (ltb-false place _ (none-is (ltb place (length text)) place none))

-- else the first one ends there
pub first-word : (text : List ℕ) (at : ℕ) → position is_space text ≡ Some at → words_between text ≡ take at text ∷ words_between (take (length text - (at + 1)) (drop (at + 1) text))
first-word text at found =
    let place = position_or_len is_space text in
    let is = cond_some (ltb place (length text)) place at found in
    let whole : words_between text ≡ take place text ∷ words_between (drop (place + 1) text) = slice_split_first is_space text 0 (ltb-true _ _ is.0) in
    let behind : take (length text - (at + 1)) (drop (at + 1) text) ≡ drop (at + 1) text = take_all (length text - (at + 1)) (drop (at + 1) text) (omega (arith, length-drop (at + 1) text)) in
    (rw is.1 at whole) ∙ ap (λ more. take at text ∷ words_between more) (sym behind)
