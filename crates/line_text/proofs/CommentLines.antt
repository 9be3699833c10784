-- Lines of words after a `#` are comments, and so are texts of such lines: for proofs of the crates above.
use Rattle.std.proofs.Common.{◌≡◌, ℕ, ◌+◌, ◌*◌, ◌<◌, ◌≤◌, ◌^◌, true, false, List, [], ◌∷◌, ◌++◌, length, filter, refl, sym, ap, ◌∙◌, append-nil, length-append, arith}
use Rattle.std.specs.Prelude.{codes, nat_le}
use Rattle.std.specs.Fmt.{decimal}
use Rattle.std.specs.List.{AllByRecursion, enumerate_from, flat_map, list_all}
use Rattle.std.proofs.lemmas.Bool.{and_from, le-leb}
use Rattle.std.proofs.lemmas.Grind.{flat_map-append}
use Rattle.std.proofs.lemmas.List.Folds.{list_all-append}
use Rattle.line_text.specs.Comments.{IsComment, MaySkip, ended, lines_text, tells}
use Rattle.line_text.specs.LineTests.{is_text_byte}
use Rattle.line_text.specs.Spelling.{spaced}
use Rattle.line_text.specs.Text.{is_comment}
use Rattle.line_text.proofs.Decimals.{NumberIsReadAgain-always}
use Rattle.type_table.proofs.Elements.{each-append}

-- ---- texts of comments

pub record AreComments (text : List ℕ) : Type 0 where
  pub lines : List (List ℕ)
  pub are : AllByRecursion IsComment lines
  pub is : text ≡ lines_text lines

pub no_comments : AreComments []
no_comments = record { lines = []; are = tt; is = refl }

-- two, one after the other
pub both_comments : (a b : List ℕ) → AreComments a → AreComments b → AreComments (a ++ b)
both_comments a b first second = record {
  lines = first.lines ++ second.lines;
  are = each-append IsComment first.lines second.lines first.are second.are;
  is = ap (λ (l : List ℕ). l ++ b) first.is ∙ ap (λ (l : List ℕ). lines_text first.lines ++ l) second.is ∙ sym (flat_map-append ended first.lines second.lines);
}

-- one for each item
pub each_comments : {X : Type 0} (P : X → Type 0) (text : X → List ℕ) → ((x : X) → P x → AreComments (text x)) → (xs : List X) → AllByRecursion P xs
    → AreComments (flat_map text xs)
each_comments P text comments [] h = no_comments
each_comments P text comments (x ∷ xs) h = both_comments (text x) (flat_map text xs) (comments x h.0) (each_comments P text comments xs h.1)

-- one for each item with its place
pub placed_comments : {X : Type 0} (P : X → Type 0) (text : ℕ × X → List ℕ) → ((n : ℕ) (x : X) → n < 10 ^ 7 → P x → AreComments (text (n, x)))
    → (n : ℕ) (xs : List X) → n + length xs < 10 ^ 7 → AllByRecursion P xs → AreComments (flat_map text (enumerate_from n xs))
placed_comments P text comments n [] few h = no_comments
placed_comments P text comments n (x ∷ xs) few h =
    both_comments (text (n, x)) (flat_map text (enumerate_from (n + 1) xs)) (comments n x (omega (arith, few)) h.0)
    (placed_comments P text comments (n + 1) xs (omega (arith, few)) h.1)

-- ---- words

-- bytes that a line may have, not many
pub record IsText (w : List ℕ) : Type 0 where
  pub bytes : list_all is_text_byte w ≡ true
  pub short : length w ≤ 20

-- words with one space between two
words_text : (w : List ℕ) (ws : List (List ℕ)) → IsText w → AllByRecursion IsText ws → list_all is_text_byte (spaced (w ∷ ws)) ≡ true
words_text w [] is are = is.bytes
words_text w (v ∷ ws) is are =
    list_all-append is_text_byte w (32 ∷ spaced (v ∷ ws)) ∙ and_from (list_all is_text_byte w) (list_all is_text_byte (32 ∷ spaced (v ∷ ws))) is.bytes (words_text v ws are.0 are.1)

words_length : (w : List ℕ) (ws : List (List ℕ)) → IsText w → AllByRecursion IsText ws → length (spaced (w ∷ ws)) ≤ 20 + 21 * length ws
words_length w [] is are = omega (arith, is.short)
words_length w (v ∷ ws) is are = omega (arith, is.short, length-append w (32 ∷ spaced (v ∷ ws)), words_length v ws are.0 are.1)

hash : IsText (codes "#")
hash = record { bytes = refl; short = omega arith }

begins : (ws : List (List ℕ)) → is_comment (spaced (codes "#" ∷ ws)) ≡ true
begins [] = refl
begins (w ∷ ws) = refl

-- a line of few words after a `#`
pub words_comment : (ws : List (List ℕ)) → AllByRecursion IsText ws → length ws ≤ 6 → IsComment (spaced (codes "#" ∷ ws))
words_comment ws are few =
    record { comment = begins ws; bytes = words_text (codes "#") ws hash are; short = omega (arith, words_length (codes "#") ws hash are, few) }

-- and with its LF as a text
pub line_comment : (ws : List (List ℕ)) → AllByRecursion IsText ws → length ws ≤ 6 → AreComments (spaced (codes "#" ∷ ws) ++ 10 ∷ [])
line_comment ws are few = record {
  lines = spaced (codes "#" ∷ ws) ∷ [];
  are = (words_comment ws are few, tt);
  is = sym (append-nil (spaced (codes "#" ∷ ws) ++ 10 ∷ []));
}

-- bytes of a word are bytes of a line
word_bytes : (w : List ℕ) → AllByRecursion (λ b. (33 ≤ b) × (b ≤ 126)) w → list_all is_text_byte w ≡ true
word_bytes [] h = refl
word_bytes (b ∷ w) h =
    and_from (is_text_byte b) (list_all is_text_byte w) (and_from (nat_le 32 b) (nat_le b 126) (le-leb 32 b (omega (arith, h.0.0))) (le-leb b 126 h.0.1)) (word_bytes w h.1)

-- a number of at most seven digits
pub number_text : (n : ℕ) → n < 10 ^ 7 → IsText (decimal n)
number_text n short =
    let its = NumberIsReadAgain-always n short in record { bytes = word_bytes (decimal n) its.is_word.1; short = omega (arith, its.short) }

-- ---- lines that may be skipped

-- a line that is no comment
pub told_skips : (l : List ℕ) → is_comment l ≡ false → MaySkip l
told_skips l fails = λ is. let bad : false ≡ true = sym fails ∙ is in absurd cc

pub comment_skips : (l : List ℕ) → IsComment l → MaySkip l
comment_skips l is = λ begins. is

pub comments_skip : (ls : List (List ℕ)) → AllByRecursion IsComment ls → AllByRecursion MaySkip ls
comments_skip [] are = tt
comments_skip (l ∷ ls) are = (comment_skips l are.0, comments_skip ls are.1)

pub skips_append : (xs ys : List (List ℕ)) → AllByRecursion MaySkip xs → AllByRecursion MaySkip ys → AllByRecursion MaySkip (xs ++ ys)
skips_append xs ys p q = each-append MaySkip xs ys p q

-- comments say nothing
pub nothing_told : (ls : List (List ℕ)) → AllByRecursion IsComment ls → filter tells ls ≡ []
nothing_told [] are = refl
nothing_told (l ∷ ls) are = rw are.0.comment (nothing_told ls are.1)
