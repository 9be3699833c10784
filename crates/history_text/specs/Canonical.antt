-- The canonical text of a history: how many objects it may have where these are more than 256 or one has a name, its objects and its events in
-- order, one line for each, and `end`.
use Rattle.std.specs.Prelude.{◌≡◌, ℕ, ◌+◌, max, nat_lt, ◌<◌, ◌≤◌, Bool, true, ◌||◌, is_some, List, [], ◌∷◌, ◌++◌, filter, length, map, if◌then◌else◌, Option, Some, None, Ok, codes}
use Rattle.type_table.specs.Limits.{most_events}
use Rattle.std.specs.Fmt.{decimal}
use Rattle.std.specs.List.{AllByRecursion, list_any}
use Rattle.std.specs.Option.{option_to_list}
use Rattle.type_table.specs.Kind.{kind_word}
use Rattle.object_trait.specs.declared.event.Event.{Event}
use Rattle.line_text.specs.Comments.{MaySkip, lines_text, tells}
use Rattle.line_text.specs.Spelling.{text_of}
use Rattle.store_text.specs.Body.{store_outcome}
use Rattle.store_text.specs.Kept.{size_lines}
use Rattle.store_text.specs.Named.{AreNamed}
use Rattle.store_text.specs.Parts.{ReadsStoreText}
use Rattle.store_text.specs.Said.{said_sizes, said_objects, entries_of}
use Rattle.store_text.specs.Size.{may_have, most_size}
use Rattle.store_text.specs.declared.line.Line.{Line}
use Rattle.store_text.specs.declared.line.Line.TheVariants.{Objects, Max, Object, Entry, End}
use Rattle.store_text.specs.declared.line.ObjectLine.{ObjectLine}
use Rattle.history_text.specs.declared.event_line.EventLine.{EventLine}
use Rattle.history_text.specs.declared.event_line.EventLine.TheVariants.{Begin, Op, OpOf, Busy, Nothing, Commit, Abort, Rollback}
use Rattle.history_text.specs.declared.history_file.HistoryFile.{HistoryFile}
use Rattle.history_text.specs.Events.{history_body, event_in_line, line_of, is_in_range}
use Rattle.history_text.specs.History.{IsHistoryOf}

-- ---- a line

-- the words of an event's line
abbrev pub event_line_words : EventLine → List (List ℕ)
event_line_words (Begin w t) = codes "begin" ∷ decimal w ∷ decimal t ∷ []
event_line_words (Op w t x k) = codes "op" ∷ decimal w ∷ decimal t ∷ decimal x ∷ decimal k ∷ []
event_line_words (OpOf w t x k n) = codes "op" ∷ decimal w ∷ decimal t ∷ decimal x ∷ decimal k ∷ decimal n ∷ []
event_line_words (Busy w t x c u) = codes "busy" ∷ decimal w ∷ decimal t ∷ decimal x ∷ decimal c ∷ decimal u ∷ []
event_line_words (Nothing w t x c) = codes "none" ∷ decimal w ∷ decimal t ∷ decimal x ∷ decimal c ∷ []
event_line_words (Commit w t) = codes "commit" ∷ decimal w ∷ decimal t ∷ []
event_line_words (Abort w t) = codes "abort" ∷ decimal w ∷ decimal t ∷ []
event_line_words (Rollback w t n) = codes "rollback" ∷ decimal w ∷ decimal t ∷ decimal n ∷ []

-- the words of a line; a history has no `max` line
abbrev pub words_of : Line EventLine → List (List ℕ)
words_of (Objects n) = codes "objects" ∷ decimal n ∷ []
words_of (Max most) = codes "max" ∷ decimal most ∷ []
words_of (Object kind file name) = codes "object" ∷ kind_word kind ∷ decimal file ∷ option_to_list name
words_of (Entry x) = event_line_words x
words_of End = codes "end" ∷ []

-- ---- the text

-- the line of an object
abbrev pub object_line : ObjectLine → Line EventLine
object_line o = Object o.kind o.file o.name

-- the line of an event
abbrev pub event_line : Event → Line EventLine
event_line e = Entry (line_of e)

-- one more than the greatest place of a type
abbrev pub places_of : List ObjectLine → ℕ
places_of [] = 0
places_of (o ∷ objects) = max (o.file + 1) (places_of objects)

-- how many objects a text of these has to be allowed: so many there are, and the place of a type is below it
abbrev pub needed_size : List ObjectLine → ℕ
needed_size objects = max (length objects) (places_of objects)

-- whether an object has a name
abbrev pub have_names : List ObjectLine → Bool
have_names objects = list_any (λ (o : ObjectLine). is_some o.name) objects

-- which is said where it is more than a text may have that doesn't say it, or where an object has a name
abbrev pub canonical_size : List ObjectLine → Option ℕ
canonical_size objects = if nat_lt (may_have None) (needed_size objects) || have_names objects then Some (needed_size objects) else None

abbrev pub canonical_lines : List ObjectLine → List Event → List (Line EventLine)
canonical_lines objects happened = size_lines (canonical_size objects) ++ (map object_line objects ++ (map event_line happened ++ End ∷ []))

abbrev pub canonical_text : List ObjectLine → List Event → List ℕ
canonical_text objects happened = text_of words_of (canonical_lines objects happened)

-- ---- that it is read again

-- every number and count is in its range, and no name comes twice
pub record AreInRange (objects : List ObjectLine) (happened : List Event) : Type 0 where
  pub some_object : 0 < length objects
  pub objects_fit : length objects ≤ most_size
  pub files_fit : AllByRecursion (λ (o : ObjectLine). o.file < most_size) objects
  pub named : AreNamed objects
  pub events_fit : length happened ≤ most_events
  pub numbers_fit : AllByRecursion (λ e. is_in_range (may_have (canonical_size objects)) (line_of e) ≡ true) happened

-- the text is read, and its lines say these objects and events
pub record IsReadBack (objects : List ObjectLine) (happened : List Event) : Type 0 where
  pub read : store_outcome history_body (canonical_text objects happened) ≡ Ok (canonical_lines objects happened)
  pub size_said : said_sizes (canonical_lines objects happened) ≡ option_to_list (canonical_size objects)
  pub objects_said : said_objects (canonical_lines objects happened) ≡ objects
  pub events_said : map event_in_line (entries_of (canonical_lines objects happened)) ≡ happened

-- ---- statements of laws

-- the canonical text of a history is read as that history
abbrev pub CanonicalIsRead : Type 0
CanonicalIsRead = (objects : List ObjectLine) (happened : List Event) → AreInRange objects happened → IsReadBack objects happened

-- the objects and events of a file, and what its text said of its size
pub record IsFileWith (objects : List ObjectLine) (happened : List Event) (file : HistoryFile) : Type 0 where
  pub size_is : file.size ≡ canonical_size objects
  pub objects_are : file.objects.items ≡ objects
  pub events_are : file.events.items ≡ happened

-- what a reading answers of the canonical text of a history is that history
abbrev pub WrittenIsRead : Type 0
WrittenIsRead =
    (objects : List ObjectLine) (happened : List Event) (back : HistoryFile) → AreInRange objects happened
    → ReadsStoreText history_body IsHistoryOf (Ok back) (canonical_text objects happened) → IsFileWith objects happened back

-- a text of a history is read as the one without its comments
abbrev pub CommentsAreSkipped : Type 0
CommentsAreSkipped =
    (lines : List (List ℕ)) (items : List (Line EventLine)) → AllByRecursion MaySkip lines
    → store_outcome history_body (lines_text (filter tells lines)) ≡ Ok items → store_outcome history_body (lines_text lines) ≡ Ok items
