-- Comments leave the size that a text says as it is.
use Rattle.std.proofs.Common.{◌≡◌, ℕ, ◌<◌, Bool, true, false, eqb, List, [], ◌∷◌, ◌++◌, length, filter, refl, sym, ap, ◌∙◌, append_assoc, arith}
use Rattle.std.specs.Prelude.{nat_le}
use Rattle.std.specs.List.{AllByRecursion, list_all, onto_first, slice_split}
use Rattle.std.proofs.lemmas.Bool.{and_parts, leb-true, ne_eqb}
use Rattle.std.proofs.lemmas.List.Elements.{All-from_recursion}
use Rattle.std.proofs.lemmas.List.Splits.{length-slice_split, slice_split-cons_yes, slice_split-cons_no, slice_split_none}
use Rattle.line_text.specs.Comments.{IsComment, MaySkip, ended, lines_text, tells}
use Rattle.line_text.specs.LineTests.{is_text_byte}
use Rattle.line_text.specs.Text.{content_of, is_comment, lines_of}
use Rattle.store_text.specs.Size.{first_words, words_or, size_in, text_size}
use Rattle.store_text.proofs.Sizes.{or_these, pieces_first, words_in_front}

-- ---- where a text is cut

abbrev is_feed : ℕ → Bool
is_feed b = eqb b 10

onto_append : (b : ℕ) (ps qs : List (List ℕ)) → 0 < length ps → onto_first b (ps ++ qs) ≡ onto_first b ps ++ qs
onto_append b [] qs some = absurd (omega (arith, some))
onto_append b (p ∷ ps) qs some = refl

-- at each LF
cut_at : (front rest : List ℕ) → slice_split is_feed (front ++ 10 ∷ rest) ≡ slice_split is_feed front ++ slice_split is_feed rest
cut_at [] rest = slice_split-cons_yes is_feed 10 rest refl
cut_at (b ∷ front) rest = go (is_feed b) refl (cut_at front rest)
  where
    go : (is : Bool) → is_feed b ≡ is → slice_split is_feed (front ++ 10 ∷ rest) ≡ slice_split is_feed front ++ slice_split is_feed rest
        → slice_split is_feed (b ∷ (front ++ 10 ∷ rest)) ≡ slice_split is_feed (b ∷ front) ++ slice_split is_feed rest
    go true is so_far =
        slice_split-cons_yes is_feed b (front ++ 10 ∷ rest) is ∙ ap (λ (ps : List (List ℕ)). [] ∷ ps) so_far
        ∙ ap (λ (ps : List (List ℕ)). ps ++ slice_split is_feed rest) (sym (slice_split-cons_yes is_feed b front is))
    go false is so_far =
        slice_split-cons_no is_feed b (front ++ 10 ∷ rest) is ∙ ap (onto_first b) so_far
        ∙ onto_append b (slice_split is_feed front) (slice_split is_feed rest) (omega (arith, length-slice_split is_feed front))
        ∙ ap (λ (ps : List (List ℕ)). ps ++ slice_split is_feed rest) (sym (slice_split-cons_no is_feed b front is))

-- ---- the words in front

or_or : (a b c : List (List ℕ)) → words_or a (words_or b c) ≡ words_or (words_or a b) c
or_or [] b c = refl
or_or (w ∷ a) b c = refl

-- those of pieces and others
in_front_append : (ps qs : List (List ℕ)) → words_in_front (ps ++ qs) ≡ words_or (words_in_front ps) (words_in_front qs)
in_front_append [] qs = refl
in_front_append (p ∷ ps) qs = ap (words_or (content_of p)) (in_front_append ps qs) ∙ or_or (content_of p) (words_in_front ps) (words_in_front qs)

-- the words of the first line of a text that has some
abbrev front_of : List ℕ → List (List ℕ)
front_of text = first_words (lines_of text)

-- those of bytes up to a LF, or those behind it
front_behind : (l rest : List ℕ) → front_of (ended l ++ rest) ≡ words_or (words_in_front (slice_split is_feed l)) (front_of rest)
front_behind l rest =
    ap front_of (append_assoc l (10 ∷ []) rest) ∙ pieces_first (slice_split is_feed (l ++ 10 ∷ rest)) ∙ ap words_in_front (cut_at l rest)
    ∙ in_front_append (slice_split is_feed l) (slice_split is_feed rest) ∙ ap (words_or (words_in_front (slice_split is_feed l))) (sym (pieces_first (slice_split is_feed rest)))

-- ---- comments

-- the bytes of a comment have no LF
no_feed : (l : List ℕ) → list_all is_text_byte l ≡ true → AllByRecursion (λ b. is_feed b ≡ false) l
no_feed [] bytes = tt
no_feed (b ∷ l) bytes =
    let parts = and_parts (is_text_byte b) (list_all is_text_byte l) bytes in
    let low = leb-true 32 b (and_parts (nat_le 32 b) (nat_le b 126) parts.0).0 in
    (ne_eqb b 10 (λ e. omega (arith, e, low)), no_feed l parts.1)

-- so a comment has no words
comment_front : (l : List ℕ) → IsComment l → words_in_front (slice_split is_feed l) ≡ []
comment_front l is =
    let whole : slice_split is_feed l ≡ l ∷ [] = slice_split_none is_feed l (All-from_recursion (λ b. is_feed b ≡ false) l (no_feed l is.bytes)) in
    ap words_in_front whole ∙ or_these (content_of l) [] (rw is.comment refl)

-- the words in front of lines are those of the lines that are no comments
front_skipped : (lines : List (List ℕ)) → AllByRecursion MaySkip lines → front_of (lines_text (filter tells lines)) ≡ front_of (lines_text lines)
front_skipped [] may = refl
front_skipped (l ∷ lines) may = go (is_comment l) refl (front_skipped lines may.1)
  where
    go : (comment : Bool) → is_comment l ≡ comment → front_of (lines_text (filter tells lines)) ≡ front_of (lines_text lines) → front_of (lines_text (filter tells (l ∷ lines))) ≡ front_of (lines_text (l ∷ lines))
    go true e so_far =
        let skips : filter tells (l ∷ lines) ≡ filter tells lines = rw e refl in
        ap (λ ls. front_of (lines_text ls)) skips ∙ so_far ∙ sym (front_behind l (lines_text lines) ∙ or_these (words_in_front (slice_split is_feed l)) (front_of (lines_text lines)) (comment_front l (may.0 e)))
    go false e so_far =
        let told : filter tells (l ∷ lines) ≡ l ∷ filter tells lines = rw e refl in
        ap (λ ls. front_of (lines_text ls)) told ∙ front_behind l (lines_text (filter tells lines)) ∙ ap (words_or (words_in_front (slice_split is_feed l))) so_far ∙ sym (front_behind l (lines_text lines))

-- and so they say the same size
pub size_skipped : (lines : List (List ℕ)) → AllByRecursion MaySkip lines → text_size (lines_text (filter tells lines)) ≡ text_size (lines_text lines)
size_skipped lines may = ap size_in (front_skipped lines may)
