-- The canonical text of a history of worker 0, where its events are in lines already.
use Rattle.std.specs.Prelude.{◌≡◌, ℕ, List, ◌++◌, map, codes}
use Rattle.object_trait.specs.declared.event.EventKind.{EventKind}
use Rattle.line_text.specs.Spelling.{text_of}
use Rattle.store_text.specs.Kept.{size_lines}
use Rattle.store_text.specs.declared.line.ObjectLine.{ObjectLine}
use Rattle.event_text.specs.EventText.{AreShort, event_lines, events_of_kinds}
use Rattle.history_text.specs.Canonical.{canonical_size, canonical_text, event_line, object_line, words_of}

-- how many objects it may have where that has to be said, the lines of the objects, these lines, and `end`
abbrev pub text_with_lines : List ObjectLine → List ℕ → List ℕ
text_with_lines objects lines = text_of words_of (size_lines (canonical_size objects)) ++ (text_of words_of (map object_line objects) ++ (lines ++ codes "end\n"))

-- ---- statement of a law

-- the canonical text has of events of worker 0, whose numbers are of 32 bits, the lines that the file of a store has (of a number of more than 64 digits
-- it would have the last 64)
abbrev pub LinesAreCanonical : Type 0
LinesAreCanonical = (happened : List EventKind) → AreShort happened → text_of words_of (map event_line (events_of_kinds happened)) ≡ event_lines happened

-- so with these lines it is the canonical text
abbrev pub TextIsCanonical : Type 0
TextIsCanonical =
    (objects : List ObjectLine) (happened : List EventKind) → AreShort happened → text_with_lines objects (event_lines happened) ≡ canonical_text objects (events_of_kinds happened)
