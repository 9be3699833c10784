-- The first line of a text, and the lines after it.
use Rattle.std.proofs.Common.{◌≡◌, ℕ, ◌+◌, ◌<◌, ◌≤◌, Bool, true, false, cond, eqb, ltb, List, [], ◌∷◌, length, take, drop, position, Option, Some, None, refl, sym, ap, ◌∙◌, arith}
use Rattle.std.specs.List.{slice_split, position_or_len}
use Rattle.std.proofs.lemmas.Bool.{ltb-true, ltb-false}
use Rattle.std.proofs.lemmas.Option.{cond_some}
use Rattle.std.proofs.lemmas.List.Splits.{slice_split_first, length-slice_split}
use Rattle.line_text.specs.Text.{TextLine, lines_of, lines_of_pieces}

-- a piece before others is a line that is ended
pub lines_of_pieces-ended : (x : List ℕ) (pieces : List (List ℕ)) → 0 < length pieces → lines_of_pieces (x ∷ pieces) ≡ record { bytes = x; is_ended = true } ∷ lines_of_pieces pieces
lines_of_pieces-ended x [] some = absurd (omega arith)
lines_of_pieces-ended x (y ∷ more) some = refl

-- a list in which nothing passes is its one piece
pub slice_split_whole : (p : ℕ → Bool) (xs : List ℕ) → length xs ≤ position_or_len p xs → slice_split p xs ≡ xs ∷ []
slice_split_whole p [] none = refl
slice_split_whole p (x ∷ xs) none = go (p x) refl (λ h. slice_split_whole p xs h) none
  where
    go : (b : Bool) → p x ≡ b → (length xs ≤ position_or_len p xs → slice_split p xs ≡ xs ∷ []) → length (x ∷ xs) ≤ position_or_len p (x ∷ xs) → slice_split p (x ∷ xs) ≡ (x ∷ xs) ∷ []
    go true e rest h = absurd (omega (arith, simp e at h))
    go false e rest h = rw e (rw (rest (omega (arith, simp e at h))) refl)

-- a LF
abbrev is_line_feed : ℕ → Bool
is_line_feed b = eqb b 10

-- up to the first LF the text is a line that is ended
pub lines_of-ended : (text : List ℕ) (end : ℕ) → position (λ b. eqb b 10) text ≡ Some end → lines_of text ≡ record { bytes = take end text; is_ended = true } ∷ lines_of (drop (end + 1) text)
lines_of-ended text end found =
    let place = position_or_len is_line_feed text in
    let is = cond_some (ltb place (length text)) place end found in
    let rest = drop (place + 1) text in
    let whole : lines_of text ≡ record { bytes = take place text; is_ended = true } ∷ lines_of rest =
    ap lines_of_pieces (slice_split_first is_line_feed text 0 (ltb-true _ _ is.0))
    ∙ lines_of_pieces-ended (take place text) (slice_split is_line_feed rest) (omega (arith, length-slice_split is_line_feed rest)) in
    rw is.1 at whole

-- a test that gives nothing fails
pub none_is : (b : Bool) (n : ℕ) → cond b (Some n) None ≡ None → b ≡ false
none_is true n e = absurd cc
none_is false n e = refl

-- without a LF the text is a line that isn't ended
pub lines_of-last : (text : List ℕ) → 0 < length text → position (λ b. eqb b 10) text ≡ None → lines_of text ≡ record { bytes = text; is_ended = false } ∷ []
lines_of-last [] some none = absurd (omega arith)
lines_of-last (b ∷ text) some none =
    let place = position_or_len is_line_feed (b ∷ text) in
    ap lines_of_pieces (slice_split_whole is_line_feed (b ∷ text) (ltb-false place _ (none_is (ltb place (length (b ∷ text))) place none)))

-- a text without bytes has no line
pub lines_of-empty : (text : List ℕ) → length text ≡ 0 → lines_of text ≡ []
lines_of-empty [] e = refl
lines_of-empty (b ∷ text) e = absurd (omega arith)

-- one with bytes has a line
pub lines_of-some : (text : List ℕ) → 0 < length text → lines_of text ≡ [] → ⊥
lines_of-some text some none = go (position (λ b. eqb b 10) text) refl
  where
    go : (o : Option ℕ) → position (λ b. eqb b 10) text ≡ o → ⊥
    go (Some end) e = let clash = sym none ∙ lines_of-ended text end e in cc
    go None e = let clash = sym none ∙ lines_of-last text some e in cc

-- and a first one
pub lines_of-first : (text : List ℕ) → 0 < length text → (l : TextLine) × (ls : List TextLine) × (lines_of text ≡ l ∷ ls)
lines_of-first text some = go (position (λ b. eqb b 10) text) refl
  where
    go : (o : Option ℕ) → position (λ b. eqb b 10) text ≡ o → (l : TextLine) × (ls : List TextLine) × (lines_of text ≡ l ∷ ls)
    go (Some end) e = (record { bytes = take end text; is_ended = true }, lines_of (drop (end + 1) text), lines_of-ended text end e)
    go None e = (record { bytes = text; is_ended = false }, [], lines_of-last text some e)
