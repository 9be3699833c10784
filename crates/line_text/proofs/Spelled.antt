-- The canonical text of items is read as these items.
use Rattle.std.proofs.Common.{◌≡◌, ◌≢◌, ℕ, ◌<◌, ◌≤◌, Bool, true, false, eqb, leb, ltb, List, [], ◌∷◌, ◌++◌, length, get_or, take, map, filter, Some, None, Ok, refl, sym, ap, ◌∙◌, append_assoc, arith}
use Rattle.std.specs.Option.{option_map}
use Rattle.std.specs.List.{All, AllByRecursion, list_all, slice_get, slice_split}
use Rattle.std.proofs.lemmas.Bool.{ne_eqb, le-leb, le-ltb, and_from}
use Rattle.std.proofs.lemmas.List.{take-map, length-map}
use Rattle.std.proofs.lemmas.List.Elements.{All-from_recursion}
use Rattle.std.proofs.lemmas.List.Splits.{slice_split_at, slice_split_none, length-slice_split}
use Rattle.std.proofs.lemmas.Option.{slice_get-map}
use Rattle.type_table.proofs.Elements.{each-append, each-found, each-take, each-weaker, element_at}
use Rattle.line_text.specs.Text.{TextLine, has_bytes, lines_of, lines_of_pieces, is_comment, content_of}
use Rattle.line_text.specs.Rules.{Rules, item_in, items_of, was_read, end_rank}
use Rattle.line_text.specs.LineTests.{is_text_byte, item_fault, words_fault, line_fault}
use Rattle.line_text.specs.Outcome.{ArePassed}
use Rattle.line_text.specs.Accepted.{IsAccepted}
use Rattle.line_text.specs.Spelling.{spaced, text_of, IsWord, Spells, IsReadAgain}
use Rattle.line_text.proofs.Lines.{lines_of_pieces-ended}
use Rattle.line_text.proofs.Words.{content_of-plain}
use Rattle.line_text.proofs.Places.{outcome_from}

-- ---- facts of each element

-- as a test
pub all_pass : (p : ℕ → Bool) (xs : List ℕ) → AllByRecursion (λ b. p b ≡ true) xs → list_all p xs ≡ true
all_pass p [] h = refl
all_pass p (x ∷ xs) h = and_from (p x) (list_all p xs) h.0 (all_pass p xs h.1)

-- ---- words and lines

-- a byte of a word
abbrev pub InWord : ℕ → Type 0
InWord b = (33 ≤ b) × (b ≤ 126)

-- a byte of a line
abbrev pub InLine : ℕ → Type 0
InLine b = (32 ≤ b) × (b ≤ 126)

-- a word has no space
pub no_space : (w : List ℕ) → AllByRecursion InWord w → All (λ b. eqb b 32 ≡ false) w
no_space w h = All-from_recursion (λ b. eqb b 32 ≡ false) w (each-weaker {P = InWord} {Q = λ b. eqb b 32 ≡ false} (λ b k. ne_eqb b 32 (λ e. omega arith)) w h)

-- words with one space between are split into these words
pieces_again : (w : List ℕ) (ws : List (List ℕ)) → AllByRecursion IsWord (w ∷ ws) → slice_split (λ b. eqb b 32) (spaced (w ∷ ws)) ≡ w ∷ ws
pieces_again w [] h = slice_split_none (λ b. eqb b 32) w (no_space w h.0.1)
pieces_again w (v ∷ ws) h = slice_split_at (λ b. eqb b 32) w 32 (spaced (v ∷ ws)) (no_space w h.0.1) refl ∙ ap (λ vs. w ∷ vs) (pieces_again v ws h.1)

-- each word has bytes
words_kept : (ws : List (List ℕ)) → AllByRecursion IsWord ws → filter has_bytes ws ≡ ws
words_kept [] h = refl
words_kept ([] ∷ ws) h = absurd (omega (arith, h.0.0))
words_kept ((b ∷ w) ∷ ws) h = ap (λ vs. (b ∷ w) ∷ vs) (words_kept ws h.1)

-- a line that begins otherwise is no comment
not_comment : (bytes : List ℕ) → get_or bytes 0 0 ≢ 35 → is_comment bytes ≡ false
not_comment [] h = refl
not_comment (b ∷ bytes) h = ne_eqb b 35 h

-- the content of a line of words is these words
pub content_again : (ws : List (List ℕ)) → 0 < length ws → AllByRecursion IsWord ws → get_or (spaced ws) 0 0 ≢ 35 → content_of (spaced ws) ≡ ws
content_again [] some each plain = absurd (omega arith)
content_again (w ∷ ws) some each plain = sym (content_of-plain (spaced (w ∷ ws)) (not_comment (spaced (w ∷ ws)) plain)) ∙ ap (filter has_bytes) (pieces_again w ws each) ∙ words_kept (w ∷ ws) each

-- words and the spaces between are bytes of a line
pub spaced_bytes : (ws : List (List ℕ)) → AllByRecursion IsWord ws → AllByRecursion InLine (spaced ws)
spaced_bytes [] h = tt
spaced_bytes (w ∷ []) h = each-weaker {P = InWord} {Q = InLine} (λ b k. (omega arith, k.1)) w h.0.1
spaced_bytes (w ∷ v ∷ ws) h = each-append InLine w (32 ∷ spaced (v ∷ ws)) (each-weaker {P = InWord} {Q = InLine} (λ b k. (omega arith, k.1)) w h.0.1) ((omega arith, omega arith), spaced_bytes (v ∷ ws) h.1)

-- a line and its LF, before more text
pub first_line : (bytes rest : List ℕ) → AllByRecursion InLine bytes → lines_of ((bytes ++ 10 ∷ []) ++ rest) ≡ record { bytes = bytes; is_ended = true } ∷ lines_of rest
first_line bytes rest h =
    let no_feed = All-from_recursion (λ b. eqb b 10 ≡ false) bytes (each-weaker {P = InLine} {Q = λ b. eqb b 10 ≡ false} (λ b k. ne_eqb b 10 (λ e. omega arith)) bytes h) in
    ap lines_of (append_assoc bytes (10 ∷ []) rest)
    ∙ ap lines_of_pieces (slice_split_at (λ b. eqb b 10) bytes 10 rest no_feed refl)
    ∙ lines_of_pieces-ended bytes (slice_split (λ b. eqb b 10) rest) (omega (arith, length-slice_split (λ b. eqb b 10) rest))

-- ---- the text of items

module _ {Item : Type 0} (g : Rules Item) (words : Item → List (List ℕ)) where
  abbrev line_of : Item → TextLine
  line_of x = record { bytes = spaced (words x); is_ended = true }

  -- an item's words say it
  abbrev IsSpelled : Item → Type 0
  IsSpelled x = Spells g x (words x)

  -- the lines of the text are those of the items
  lines_again : (items : List Item) → AllByRecursion IsSpelled items → lines_of (text_of words items) ≡ map line_of items
  lines_again [] h = refl
  lines_again (x ∷ items) h = first_line (spaced (words x)) (text_of words items) (spaced_bytes (words x) h.0.each) ∙ ap (λ ls. line_of x ∷ ls) (lines_again items h.1)

  -- the line of an item says it
  item_again : (x : Item) → IsSpelled x → item_in g (content_of (spaced (words x))) ≡ Some x
  item_again x s =
      let some : eqb (length (words x)) 0 ≡ false = ne_eqb (length (words x)) 0 (λ e. omega (arith, s.some)) in
      rw (content_again (words x) s.some s.each s.no_comment, some, s.said) refl

  -- the lines say the items
  items_again : (items : List Item) → AllByRecursion IsSpelled items → items_of g (map line_of items) ≡ items
  items_again [] h = refl
  items_again (x ∷ items) h = rw (item_again x h.0) (ap (λ xs. x ∷ xs) (items_again items h.1))

  -- the line of an item that passes has no fault
  line_passes : (before : List Item) (x : Item) → IsSpelled x → was_read g before (end_rank g) ≡ false → item_fault g before x ≡ None → line_fault g before (line_of x) ≡ None
  unfolding line_fault words_fault
  line_passes before x s unended none =
      let ascii : list_all is_text_byte (spaced (words x)) ≡ true = all_pass is_text_byte (spaced (words x)) (each-weaker {P = InLine} {Q = λ b. is_text_byte b ≡ true} (λ b k. and_from (leb 32 b) (leb b 126) (le-leb 32 b k.0) (le-leb b 126 k.1)) (spaced (words x)) (spaced_bytes (words x) s.each)) in
      let short : ltb 200 (length (spaced (words x))) ≡ false = le-ltb 200 (length (spaced (words x))) s.short in
      let some : eqb (length (words x)) 0 ≡ false = ne_eqb (length (words x)) 0 (λ e. omega (arith, s.some)) in
      rw (ascii, short, content_again (words x) s.some s.each s.no_comment, some, unended, s.said) none

  -- each line passes
  passed_again : (items : List Item) → AllByRecursion IsSpelled items → IsAccepted g items → ArePassed g (map line_of items) (length items)
  passed_again items h accepted k below =
      let x = element_at items k below in
      let line : slice_get (map line_of items) k ≡ Some (line_of x.0) = slice_get-map line_of items k ∙ ap (option_map line_of) x.1 in
      let front : items_of g (take k (map line_of items)) ≡ take k items = ap (items_of g) (take-map line_of k items) ∙ items_again (take k items) (each-take IsSpelled k items h) in
      rw (line, front) (line_passes (take k items) x.0 (each-found IsSpelled items k x.0 h x.1) (accepted.before_end k below) (accepted.each k x.0 x.1))

  -- so the text is read as the items
  pub IsReadAgain-always : (items : List Item) → IsReadAgain g words items
  IsReadAgain-always items spelled accepted =
      outcome_from g (text_of words items) (Ok items) (rw lines_again record {
        passed = rw length-map (passed_again items spelled accepted);
        ended = rw items_again accepted.has_ended;
        value = sym (items_again items spelled);
      })
