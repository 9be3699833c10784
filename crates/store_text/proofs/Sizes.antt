-- The first line of a text that has words, and its words one by one.
use Rattle.std.proofs.Common.{◌≡◌, ℕ, zero, suc, ◌+◌, ◌<◌, ◌≤◌, Bool, true, false, not, cond, eqb, leb, ltb, List, [], ◌∷◌, ◌++◌, ◌-◌, length, get_or, take, drop, filter, position, Option, Some, None, refl, sym, ap, ◌∙◌, arith}
use Rattle.std.specs.Prelude.{codes, IfSome}
use Rattle.std.specs.List.{slice_split, position_or_len}
use Rattle.std.specs.Str.{bytes_eq}
use Rattle.std.proofs.lemmas.Bool.{ltb-true, ltb-false, leb-true, and_parts, ne_eqb}
use Rattle.std.proofs.lemmas.List.{take_all, length-drop}
use Rattle.std.proofs.lemmas.List.Quantifiers.{position-Some}
use Rattle.std.proofs.lemmas.Option.{cond_some}
use Rattle.std.proofs.lemmas.List.Splits.{slice_split_first, slice_split-cons_yes}
use Rattle.decimals.specs.Decimals.{number_of}
use Rattle.line_text.specs.Shapes.{is_key}
use Rattle.line_text.specs.Text.{content_of, has_bytes, lines_of_pieces, words_of}
use Rattle.line_text.proofs.Lines.{none_is, slice_split_whole}
use Rattle.store_text.specs.Size.{first_words, words_or, size_in, size_said, size_or_most, IsSize}

-- ---- the first word of a line

abbrev is_space : ℕ → Bool
is_space b = eqb b 32

abbrev is_none : ℕ → Bool
is_none b = not (eqb b 32)

-- spaces in front leave the words
spaces_skipped : (line : List ℕ) → words_of line ≡ words_of (drop (position_or_len is_none line) line)
spaces_skipped [] = refl
spaces_skipped (b ∷ line) = go (is_space b) refl (spaces_skipped line)
  where
    go : (is : Bool) → is_space b ≡ is → words_of line ≡ words_of (drop (position_or_len is_none line) line) → words_of (b ∷ line) ≡ words_of (drop (position_or_len is_none (b ∷ line)) (b ∷ line))
    go true e so_far =
        let next : position_or_len is_none (b ∷ line) ≡ 1 + position_or_len is_none line = rw e refl in
        let more : position_or_len is_none (b ∷ line) ≡ suc (position_or_len is_none line) = omega (arith, next) in
        ap (filter has_bytes) (slice_split-cons_yes is_space b line e) ∙ so_far ∙ ap (λ n. words_of (drop n (b ∷ line))) (sym more)
    go false e so_far = let none : position_or_len is_none (b ∷ line) ≡ 0 = rw e refl in rw none refl

-- up to the first byte that is no space
pub words_behind : (line : List ℕ) (start : ℕ) → position (λ b. not (eqb b 32)) line ≡ Some start → words_of line ≡ words_of (drop start line)
words_behind line start at =
    let place = position_or_len is_none line in
    let is = cond_some (ltb place (length line)) place start at in
    rw is.1 at (spaces_skipped line)

-- a line of spaces has none
pub no_words : (line : List ℕ) → position (λ b. not (eqb b 32)) line ≡ None → words_of line ≡ []
no_words line none =
    let place = position_or_len is_none line in
    spaces_skipped line ∙ ap words_of (drop_all line place (ltb-false place (length line) (none_is (ltb place (length line)) place none)))
  where
    drop_all : (xs : List ℕ) (n : ℕ) → length xs ≤ n → drop n xs ≡ []
    drop_all [] zero within = refl
    drop_all [] (suc n) within = refl
    drop_all (x ∷ xs) zero within = absurd (omega arith)
    drop_all (x ∷ xs) (suc n) within = drop_all xs n (omega arith)

-- a word up to the next space
pub first_word : (front : List ℕ) (end : ℕ) → position (λ b. eqb b 32) front ≡ Some end → eqb (get_or front 0 0) 32 ≡ false → words_of front ≡ take end front ∷ words_of (drop (end + 1) front)
first_word [] end at some = absurd cc
first_word (b ∷ front) end at some =
    let place = position_or_len is_space (b ∷ front) in
    let is = cond_some (ltb place (length (b ∷ front))) place end at in
    let cut = slice_split_first is_space (b ∷ front) 0 (ltb-true place (length (b ∷ front)) is.0) in
    let next : place ≡ 1 + position_or_len is_space front = rw some refl in
    let more : place ≡ suc (position_or_len is_space front) = omega (arith, next) in
    let bytes : has_bytes (take place (b ∷ front)) ≡ true = rw more refl in
    let kept : filter has_bytes (take place (b ∷ front) ∷ slice_split is_space (drop (place + 1) (b ∷ front))) ≡ take place (b ∷ front) ∷ words_of (drop (place + 1) (b ∷ front)) = rw bytes refl in
    let whole : words_of (b ∷ front) ≡ take place (b ∷ front) ∷ words_of (drop (place + 1) (b ∷ front)) = ap (filter has_bytes) cut ∙ kept in
    rw is.1 at whole

-- a word that ends the line
pub last_word : (front : List ℕ) → position (λ b. eqb b 32) front ≡ None → eqb (get_or front 0 0) 32 ≡ false → 0 < length front → words_of front ≡ front ∷ []
last_word [] none some within = absurd (omega (arith, within))
last_word (b ∷ front) none some within =
    let place = position_or_len is_space (b ∷ front) in
    ap (filter has_bytes) (slice_split_whole is_space (b ∷ front) (ltb-false place (length (b ∷ front)) (none_is (ltb place (length (b ∷ front))) place none)))

-- the rest of a list, as a slice
rest_of : (xs : List ℕ) (i : ℕ) → take (length xs - i) (drop i xs) ≡ drop i xs
rest_of xs i = take_all (length xs - i) (drop i xs) (omega (arith, length-drop i xs))

get_drop : (xs : List ℕ) (i : ℕ) → get_or (drop i xs) 0 0 ≡ get_or xs i 0
get_drop xs zero = refl
get_drop [] (suc i) = refl
get_drop (x ∷ xs) (suc i) = get_drop xs i

not_true : (b : Bool) → not b ≡ true → b ≡ false
not_true true h = absurd cc
not_true false h = refl

module _ (line front : List ℕ) (start : ℕ) (is : front ≡ take (length line - start) (drop start line)) (at : position (λ b. not (eqb b 32)) line ≡ Some start) where
  front_is : front ≡ drop start line
  front_is = is ∙ rest_of line start

  some_byte : eqb (get_or front 0 0) 32 ≡ false
  some_byte =
      let first : get_or front 0 0 ≡ get_or line start 0 = ap (λ (xs : List ℕ). get_or xs 0 0) front_is ∙ get_drop line start in
      rw first (not_true (eqb (get_or line start 0) 32) (position-Some (λ b. not (eqb b 32)) line start 0 at).1)

  some : 0 < length front
  some = omega (arith, (position-Some (λ b. not (eqb b 32)) line start 0 at).0, ap length front_is, length-drop start line)

  words_are : words_of line ≡ words_of front
  words_are = words_behind line start at ∙ ap words_of (sym front_is)

  -- a word up to a space, and what is behind it
  pub word_and_rest : (end : ℕ) → position (λ b. eqb b 32) front ≡ Some end → words_of line ≡ take end front ∷ words_of (take (length front - (end + 1)) (drop (end + 1) front))
  word_and_rest end stop = words_are ∙ first_word front end stop some_byte ∙ ap (λ (rest : List ℕ). take end front ∷ words_of rest) (sym (rest_of front (end + 1)))

  -- a word up to the end
  pub word_alone : position (λ b. eqb b 32) front ≡ None → words_of line ≡ front ∷ words_of (take (length front - length front) (drop (length front) front))
  word_alone none =
      let nothing : take (length front - length front) (drop (length front) front) ≡ [] = none_taken (length front - length front) (drop (length front) front) (omega arith) in
      words_are ∙ last_word front none some_byte some ∙ ap (λ (rest : List ℕ). front ∷ words_of rest) (sym nothing)
    where
      none_taken : (n : ℕ) (xs : List ℕ) → n ≡ 0 → take n xs ≡ []
      none_taken zero xs e = refl
      none_taken (suc n) xs e = absurd (omega (arith, e))

-- ---- the first line that has words

-- the words of the first of some pieces that has some
abbrev pub words_in_front : List (List ℕ) → List (List ℕ)
words_in_front [] = []
words_in_front (p ∷ ps) = words_or (content_of p) (words_in_front ps)

-- those of the lines are those of the pieces between LFs
pub pieces_first : (ps : List (List ℕ)) → first_words (lines_of_pieces ps) ≡ words_in_front ps
pieces_first [] = refl
pieces_first ([] ∷ []) = refl
pieces_first ((b ∷ p) ∷ []) = refl
pieces_first (p ∷ q ∷ ps) = ap (words_or (content_of p)) (pieces_first (q ∷ ps))

-- two lists of words of which the first is none
or_none : (words others : List (List ℕ)) → words_or words others ≡ [] → words ≡ []
or_none [] others none = refl
or_none (w ∷ words) others none = absurd cc

or_others : (words others : List (List ℕ)) → words_or words others ≡ [] → others ≡ []
or_others [] others none = none
or_others (w ∷ words) others none = absurd cc

or_some : (words others : List (List ℕ)) → not (eqb (length words) 0) ≡ true → words_or words others ≡ words
or_some [] others some = absurd cc
or_some (w ∷ words) others some = refl

pub or_these : (words others : List (List ℕ)) → words ≡ [] → words_or words others ≡ others
or_these words others none = rw none refl

-- the pieces before one have no words, and it has some
pub first_piece : (all : List (List ℕ)) (n : ℕ) (line : List ℕ) → words_in_front (take n all) ≡ [] → n < length all → line ≡ get_or all n line → not (eqb (length (content_of line)) 0) ≡ true
    → words_in_front all ≡ content_of line
first_piece [] n line none within is some = absurd (omega arith)
first_piece (p ∷ all) zero line none within is some = rw (← is) (or_some (content_of line) (words_in_front all) some)
first_piece (p ∷ all) (suc n) line none within is some =
    or_these (content_of p) (words_in_front all) (or_none (content_of p) (words_in_front (take n all)) none)
    ∙ first_piece all n line (or_others (content_of p) (words_in_front (take n all)) none) (omega arith) is some

-- one more piece without words
pub none_more : (ps : List (List ℕ)) (p : List ℕ) → words_in_front ps ≡ [] → not (eqb (length (content_of p)) 0) ≡ false → words_in_front (ps ++ p ∷ []) ≡ []
none_more [] p none more = or_these (content_of p) [] (no_content (content_of p) more)
  where
    no_content : (words : List (List ℕ)) → not (eqb (length words) 0) ≡ false → words ≡ []
    no_content [] h = refl
    no_content (w ∷ words) h = let clash : true ≡ false = sym (ap not (ne_eqb (length (w ∷ words)) 0 (λ e. omega (arith, e)))) ∙ h in absurd cc
none_more (q ∷ ps) p none more =
    or_these (content_of q) (words_in_front (ps ++ p ∷ [])) (or_none (content_of q) (words_in_front ps) none)
    ∙ none_more ps p (or_others (content_of q) (words_in_front ps) none) more

-- ---- what the words say

-- words behind another keyword are of another line
pub size_of_key : (key : List ℕ) (words : List (List ℕ)) (is : Bool) → bytes_eq key (codes "objects") ≡ is → size_in (key ∷ words) ≡ cond is (Some (size_said (key ∷ words))) None
unfolding is_key
size_of_key key words is e = rw e refl

pub size_of_none : size_in [] ≡ None
unfolding is_key
size_of_none = refl

-- what is said is a number that a text may say
pub said_fits : (words : List (List ℕ)) → IfSome (size_in words) IsSize
unfolding is_key
said_fits words = go (is_key words (codes "objects")) (size_said words) (fits words)
  where
    most : (n : ℕ) (is : Bool) → (is ≡ true → IsSize n) → IsSize (cond is n 65536)
    most n true h = h refl
    most n false h = (omega arith, omega arith)

    or_most : (number : Option ℕ) → IsSize (size_or_most number)
    or_most None = (omega arith, omega arith)
    or_most (Some n) = most n _ (λ e. let ends = and_parts (leb 1 n) (leb n 65536) e in (leb-true 1 n ends.0, leb-true n 65536 ends.1))

    fits : (words : List (List ℕ)) → IsSize (size_said words)
    fits [] = (omega arith, omega arith)
    fits (key ∷ []) = (omega arith, omega arith)
    fits (key ∷ number ∷ []) = or_most (number_of number)
    fits (key ∷ number ∷ w ∷ words) = (omega arith, omega arith)

    go : (is : Bool) (n : ℕ) → IsSize n → IfSome (cond is (Some n) None) IsSize
    go true n h = h
    go false n h = tt
