-- Bytes to lines, lines to words.
use Rattle.std.specs.Prelude.{ℕ, ◌+◌, ◌-◌, ◌*◌, Bool, true, false, not, ◌&&◌, ◌||◌, List, [], ◌∷◌, length, nat_le, ◌==◌, if◌then◌else◌, slice_index, Option, Some, None, filter, fold}
use Rattle.std.specs.List.{slice_split, list_all}
use Rattle.line_text.specs.declared.line.Line.{Line}

-- a line, and whether a LF ends it
pub record TextLine : Type 0 where
  pub bytes : List ℕ
  pub is_ended : Bool

-- a line without where it is in memory
abbrev pub seen : Line → TextLine
seen l = record { bytes = l.bytes.now; is_ended = l.is_ended }

-- a list isn't empty
abbrev pub has_bytes : List ℕ → Bool
has_bytes [] = false
has_bytes (b ∷ bs) = true

-- the pieces between LFs: each but the last is ended by one, and the last is a line where it has bytes
abbrev pub lines_of_pieces : List (List ℕ) → List TextLine
lines_of_pieces [] = []
lines_of_pieces (x ∷ []) = if has_bytes x then record { bytes = x; is_ended = false } ∷ [] else []
lines_of_pieces (x ∷ y ∷ more) = record { bytes = x; is_ended = true } ∷ lines_of_pieces (y ∷ more)

-- the lines of a text
abbrev pub lines_of : List ℕ → List TextLine
lines_of bytes = lines_of_pieces (slice_split (λ b. b == 10) bytes)

-- the longest stretches of bytes other than the space
abbrev pub words_of : List ℕ → List (List ℕ)
words_of bytes = filter has_bytes (slice_split (λ b. b == 32) bytes)

-- a line that begins with `#`
abbrev pub is_comment : List ℕ → Bool
is_comment [] = false
is_comment (b ∷ bs) = b == 35

-- the words of a line, of which a comment has none
abbrev pub content_of : List ℕ → List (List ℕ)
content_of bytes = if is_comment bytes then [] else words_of bytes
