-- How many objects a canonical text says that it may have, and how it is found there.
use Rattle.std.specs.Ordering.{ord_max}
use Rattle.std.proofs.lemmas.Grind.{common_steps}
use Rattle.std.proofs.Common.{nat_cmp, ◌≡◌, ℕ, ◌+◌, max, ◌<◌, ◌≤◌, ◌^◌, Bool, true, false, ◌&&◌, ◌||◌, cond, ltb, leb, eqb, List, [], ◌∷◌, ◌++◌, length, get_or, take, filter, Some, None, refl, sym, ap, ◌∙◌, arith}
use Rattle.std.specs.Prelude.{codes, slice_get, IfSome}
use Rattle.std.specs.Fmt.{decimal}
use Rattle.std.specs.List.{AllByRecursion, slice_split}
use Rattle.std.proofs.lemmas.Bool.{ltb-false, and_from, le-leb, ne_eqb}
use Rattle.std.proofs.lemmas.List.Splits.{slice_split_at, slice_split_none}
use Rattle.type_table.proofs.Elements.{take-found}
use Rattle.line_text.specs.Shapes.{is_key}
use Rattle.line_text.specs.Spelling.{spaced, text_of, IsWord, Spells, NumberIsReadAgain}
use Rattle.line_text.specs.Text.{content_of, has_bytes, is_comment, lines_of}
use Rattle.line_text.specs.Rules.{Rules}
use Rattle.line_text.proofs.Words.{content_of-plain}
use Rattle.line_text.proofs.Spelled.{first_line, no_space, spaced_bytes}
use Rattle.store_text.specs.Size.{first_words, may_have, words_or, size_in, IsSize}
use Rattle.store_text.specs.declared.line.ObjectLine.{ObjectLine}
use Rattle.history_text.specs.Canonical.{places_of, needed_size, canonical_size, have_names}

-- ---- the number

-- of objects with one more
places_push : (objects : List ObjectLine) (o : ObjectLine) → places_of (objects ++ o ∷ []) ≡ max (places_of objects) (o.file + 1)
places_push [] o = omega arith
places_push (p ∷ objects) o = omega (arith, places_push objects o)

-- as the code chooses the greater
pub greater : (m n : ℕ) → ord_max nat_cmp m n ≡ max m n
greater m n = grind (arith, common_steps)

-- of one more of them
pub places_next : (objects : List ObjectLine) (i : ℕ) (o : ObjectLine) (most new : ℕ) → slice_get objects i ≡ Some o → most ≡ places_of (take i objects) → new ≡ max most (o.file + 1) → new ≡ places_of (take (i + 1) objects)
places_next objects i o most new there so_far is = is ∙ ap (λ m. max m (o.file + 1)) so_far ∙ sym (ap places_of (take-found objects i o there) ∙ places_push (take i objects) o)

-- a text may have as many as are needed
enough : (objects : List ObjectLine) → needed_size objects ≤ may_have (canonical_size objects)
enough objects = go (ltb 256 (needed_size objects)) (have_names objects) refl
  where
    go : (more names : Bool) → ltb 256 (needed_size objects) ≡ more → needed_size objects ≤ may_have (cond (more || names) (Some (needed_size objects)) None)
    go true names e = omega arith
    go false true e = omega arith
    go false false e = ltb-false 256 (needed_size objects) e

-- so it may have the objects
pub enough_objects : (objects : List ObjectLine) → length objects ≤ may_have (canonical_size objects)
enough_objects objects = omega (arith, enough objects)

-- and their types' places are below
below : (most : ℕ) (objects : List ObjectLine) → places_of objects ≤ most → AllByRecursion (λ (o : ObjectLine). o.file < most) objects
below most [] h = tt
below most (o ∷ objects) h = (omega (arith, h), below most objects (omega (arith, h)))

pub files_below : (objects : List ObjectLine) → AllByRecursion (λ (o : ObjectLine). o.file < may_have (canonical_size objects)) objects
files_below objects = below (may_have (canonical_size objects)) objects (omega (arith, enough objects))

-- the number is one that a text may say
pub canonical_fits : (objects : List ObjectLine) → 0 < length objects → length objects ≤ 65536 → AllByRecursion (λ (o : ObjectLine). o.file < 65536) objects → IfSome (canonical_size objects) IsSize
canonical_fits objects some few low = go (ltb 256 (needed_size objects) || have_names objects)
  where
    within : (objects : List ObjectLine) → AllByRecursion (λ (o : ObjectLine). o.file < 65536) objects → places_of objects ≤ 65536
    within [] h = omega arith
    within (o ∷ objects) h = omega (arith, h.0, within objects h.1)

    go : (said : Bool) → IfSome (cond said (Some (needed_size objects)) None) IsSize
    go true = (omega (arith, some), omega (arith, few, within objects low))
    go false = tt

-- ---- the first line

-- words with one space between are split into these words
pieces_again : (w : List ℕ) (ws : List (List ℕ)) → AllByRecursion IsWord (w ∷ ws) → slice_split (λ b. eqb b 32) (spaced (w ∷ ws)) ≡ w ∷ ws
pieces_again w [] h = slice_split_none (λ b. eqb b 32) w (no_space w h.0.1)
pieces_again w (v ∷ ws) h = slice_split_at (λ b. eqb b 32) w 32 (spaced (v ∷ ws)) (no_space w h.0.1) refl ∙ ap (λ vs. w ∷ vs) (pieces_again v ws h.1)

-- each word has bytes
words_kept : (ws : List (List ℕ)) → AllByRecursion IsWord ws → filter has_bytes ws ≡ ws
words_kept [] h = refl
words_kept ([] ∷ ws) h = absurd (omega (arith, h.0.0))
words_kept ((b ∷ w) ∷ ws) h = ap (λ vs. (b ∷ w) ∷ vs) (words_kept ws h.1)

not_comment : (bytes : List ℕ) → (get_or bytes 0 0 ≡ 35 → ⊥) → is_comment bytes ≡ false
not_comment [] h = refl
not_comment (b ∷ bytes) h = ne_eqb b 35 h

-- the words in front of a text are those of the item of its first line
pub words_in_front : {Item : Type 0} (g : Rules Item) (words : Item → List (List ℕ)) (x : Item) (items : List Item) → Spells g x (words x) → first_words (lines_of (text_of words (x ∷ items))) ≡ words x
words_in_front g words x items s = go (words x) s.some s.each s.no_comment
  where
    go : (ws : List (List ℕ)) → 0 < length ws → AllByRecursion IsWord ws → (get_or (spaced ws) 0 0 ≡ 35 → ⊥) → first_words (lines_of ((spaced ws ++ 10 ∷ []) ++ text_of words items)) ≡ ws
    go [] some each plain = absurd (omega (arith, some))
    go (w ∷ ws) some each plain =
        let line = spaced (w ∷ ws) in
        let content : content_of line ≡ w ∷ ws = sym (content_of-plain line (not_comment line plain)) ∙ ap (filter has_bytes) (pieces_again w ws each) ∙ words_kept (w ∷ ws) each in
        ap first_words (first_line line (text_of words items) (spaced_bytes (w ∷ ws) each)) ∙ ap (λ content. words_or content (first_words (lines_of (text_of words items)))) content

-- ---- what the words say

-- those of an `objects` line
pub size_said_again : (numbers : (n : ℕ) → n < 10 ^ 7 → NumberIsReadAgain n) (n : ℕ) → IsSize n → size_in (codes "objects" ∷ decimal n ∷ []) ≡ Some n
unfolding is_key
size_said_again numbers n fits =
    let read = (numbers n (omega (arith, fits.1))).read in
    let is : (leb 1 n && leb n 65536) ≡ true = and_from (leb 1 n) (leb n 65536) (le-leb 1 n fits.0) (le-leb n 65536 fits.1) in
    rw (read, is) refl

-- those of an `object` line
pub no_size_said : (words : List (List ℕ)) → size_in (codes "object" ∷ words) ≡ None
unfolding is_key
no_size_said words = refl
