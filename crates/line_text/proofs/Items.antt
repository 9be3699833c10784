-- Words that say an item, and items that passed their tests: for lines of other crates too.
use Rattle.std.proofs.Common.{◌≡◌, ℕ, ◌+◌, ◌-◌, ◌≤◌, Bool, true, ◌&&◌, leb, List, [], ◌∷◌, ◌++◌, length, Some, None, refl, arith}
use Rattle.std.specs.List.{AllByRecursion, list_all}
use Rattle.std.proofs.lemmas.Bool.{leb-true, and_parts}
use Rattle.std.proofs.lemmas.List.{length-append}
use Rattle.line_text.specs.Rules.{Rules, last_item}
use Rattle.line_text.specs.LineTests.{item_fault}
use Rattle.line_text.specs.Accepted.{HasPassed}
use Rattle.line_text.specs.Spelling.{spaced, IsWord}
use Rattle.line_text.proofs.Places.{slice_get_at}

-- ---- words

-- a byte that a word may have, as a test
abbrev pub is_word_byte : ℕ → Bool
is_word_byte b = leb 33 b && leb b 126

-- bytes that pass the test
pub word_bytes : (w : List ℕ) → list_all is_word_byte w ≡ true → AllByRecursion (λ b. (33 ≤ b) × (b ≤ 126)) w
word_bytes [] h = tt
word_bytes (b ∷ w) h =
    let parts = and_parts (is_word_byte b) (list_all is_word_byte w) h in
    let ends = and_parts (leb 33 b) (leb b 126) parts.0 in
    ((leb-true 33 b ends.0, leb-true b 126 ends.1), word_bytes w parts.1)

-- a keyword is a word
pub keyword : (w : List ℕ) → leb 1 (length w) ≡ true → list_all is_word_byte w ≡ true → IsWord w
keyword w some each = (omega (arith, leb-true 1 (length w) some), word_bytes w each)

-- the length of a line with one more word in front
pub length-spaced : (w v : List ℕ) (ws : List (List ℕ)) → length (spaced (w ∷ v ∷ ws)) ≡ length w + 1 + length (spaced (v ∷ ws))
length-spaced w v ws = omega (arith, length-append w (32 ∷ spaced (v ∷ ws)))

-- ---- items

-- an item that has passed each test has no fault
pub no_fault : {Item : Type 0} (g : Rules Item) (before : List Item) (x : Item) → HasPassed g before x → item_fault g before x ≡ None
unfolding item_fault
no_fault g before x h = rw (h.in_order, h.lacks_none, h.misses_none, h.in_range, h.has_room, h.ascending, h.no_twin) refl

-- the last of items with one more
pub last_item_push : {Item : Type 0} (items : List Item) (x : Item) → last_item (items ++ x ∷ []) ≡ Some x
last_item_push items x = let at : length (items ++ x ∷ []) - 1 ≡ length items = omega (arith, length-append items (x ∷ [])) in rw at (slice_get_at items x [])
