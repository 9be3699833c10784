-- The lines of events as a history of worker 0 has them: a keyword and numbers with one space between two, and a LF; and the events that such lines say.
use Rattle.std.specs.Prelude.{◌≡◌, ℕ, zero, suc, ◌+◌, ◌-◌, ◌^◌, ◌<◌, ◌==◌, List, [], ◌∷◌, ◌++◌, map, get_or, slice_get, Option, Some, None, codes, if◌then◌else◌}
use Rattle.std.specs.Int.Digits.{digits_of, number_from_digits}
use Rattle.std.specs.List.{AllByRecursion, flat_map, join_with_byte, slice_split}
use Rattle.std.specs.Str.{bytes_eq}
use Rattle.type_table.specs.Operation.{operation_at, place_of, amount_of}
use Rattle.object_trait.specs.declared.event.Event.{Event}
use Rattle.object_trait.specs.declared.event.EventKind.{EventKind}
use Rattle.object_trait.specs.declared.event.EventKind.TheVariants as kind
use Rattle.event_text.specs.declared.event_word.EventWord.{EventWord}
use Rattle.event_text.specs.declared.event_word.EventWord.TheVariants as word

-- ---- words

-- the word of a kind of event
abbrev pub event_word : EventWord → List ℕ
event_word word.Begin = codes "begin"
event_word word.Op = codes "op"
event_word word.Busy = codes "busy"
event_word word.None = codes "none"
event_word word.Commit = codes "commit"
event_word word.Abort = codes "abort"
event_word word.Rollback = codes "rollback"

-- the kind of a word, where it is one's
abbrev pub word_of_event : List ℕ → Option EventWord
word_of_event text =
    if bytes_eq text (event_word word.Begin) then Some word.Begin
    else (if bytes_eq text (event_word word.Op) then Some word.Op
    else (if bytes_eq text (event_word word.Busy) then Some word.Busy
    else (if bytes_eq text (event_word word.None) then Some word.None
    else (if bytes_eq text (event_word word.Commit) then Some word.Commit
    else (if bytes_eq text (event_word word.Abort) then Some word.Abort
    else (if bytes_eq text (event_word word.Rollback) then Some word.Rollback
    else None))))))

-- the kind of an event
abbrev pub kind_of_event : EventKind → EventWord
kind_of_event (kind.Begin t) = word.Begin
kind_of_event (kind.Op k t x) = word.Op
kind_of_event (kind.Busy c t x u) = word.Busy
kind_of_event (kind.None t x c) = word.None
kind_of_event (kind.Commit t) = word.Commit
kind_of_event (kind.Abort t) = word.Abort
kind_of_event (kind.Rollback t n) = word.Rollback

-- ---- numbers

-- decimal digits without a leading zero, of a number of any size
abbrev pub numeral : ℕ → List ℕ
numeral zero = 48 ∷ []
numeral (suc n) = map (λ d. 48 + d) (digits_of 10 (suc n))

-- the number that digits say
abbrev pub number_said : List ℕ → ℕ
number_said digits = number_from_digits 10 (map (λ b. b - 48) digits)

-- a number where an operation has an amount
abbrev pub amount_numbers : Option ℕ → List ℕ
amount_numbers None = []
amount_numbers (Some n) = n ∷ []

-- the numbers of an event's line behind the worker
abbrev pub event_numbers : EventKind → List ℕ
event_numbers (kind.Begin t) = t ∷ []
event_numbers (kind.Op k t x) = t ∷ x ∷ place_of k ∷ amount_numbers (amount_of k)
event_numbers (kind.Busy c t x u) = t ∷ x ∷ c ∷ u ∷ []
event_numbers (kind.None t x c) = t ∷ x ∷ c ∷ []
event_numbers (kind.Commit t) = t ∷ []
event_numbers (kind.Abort t) = t ∷ []
event_numbers (kind.Rollback t n) = t ∷ n ∷ []

-- the event of a kind with these numbers behind the worker
abbrev pub event_of_numbers : Option EventWord → List ℕ → EventKind
event_of_numbers (Some word.Begin) ns = kind.Begin (get_or ns 0 0)
event_of_numbers (Some word.Op) ns = kind.Op (operation_at (get_or ns 2 0) (slice_get ns 3)) (get_or ns 0 0) (get_or ns 1 0)
event_of_numbers (Some word.Busy) ns = kind.Busy (get_or ns 2 0) (get_or ns 0 0) (get_or ns 1 0) (get_or ns 3 0)
event_of_numbers (Some word.None) ns = kind.None (get_or ns 0 0) (get_or ns 1 0) (get_or ns 2 0)
event_of_numbers (Some word.Commit) ns = kind.Commit (get_or ns 0 0)
event_of_numbers (Some word.Abort) ns = kind.Abort (get_or ns 0 0)
event_of_numbers (Some word.Rollback) ns = kind.Rollback (get_or ns 0 0) (get_or ns 1 0)
event_of_numbers None ns = kind.Begin 0

-- each number of an event is of 32 bits
abbrev pub IsShort : EventKind → Type 0
IsShort e = AllByRecursion (λ n. n < 2 ^ 32) (event_numbers e)

abbrev pub AreShort : List EventKind → Type 0
AreShort events = AllByRecursion IsShort events

-- ---- lines

-- a keyword and numbers
abbrev pub numerals_line : List ℕ → List ℕ → List ℕ
numerals_line keyword numbers = join_with_byte 32 (keyword ∷ map numeral numbers) ++ 10 ∷ []

-- the line of an event of worker 0
abbrev pub line_in_row : EventKind → List ℕ
line_in_row e = numerals_line (event_word (kind_of_event e)) (0 ∷ event_numbers e)

-- the lines of events
unfoldable pub event_lines : List EventKind → List ℕ
event_lines events = flat_map line_in_row events

-- the event that the words of a line say: a keyword, the worker, and numbers
abbrev pub event_said : List (List ℕ) → EventKind
event_said [] = kind.Begin 0
event_said (keyword ∷ []) = kind.Begin 0
event_said (keyword ∷ worker ∷ numbers) = event_of_numbers (word_of_event keyword) (map number_said numbers)

-- the events that lines say, of which a LF ends each, so that nothing is behind the last one
abbrev pub events_of_lines : List (List ℕ) → List EventKind
events_of_lines [] = []
events_of_lines (line ∷ []) = []
events_of_lines (line ∷ another ∷ lines) = event_said (slice_split (λ b. b == 32) line) ∷ events_of_lines (another ∷ lines)

unfoldable pub events_said : List ℕ → List EventKind
events_said text = events_of_lines (slice_split (λ b. b == 10) text)

-- ---- the worker

-- what happened, as events of worker 0, which makes all events in the file of a store
abbrev pub events_of_kinds : List EventKind → List Event
events_of_kinds happened = map (λ k. let e : Event = record { worker = 0; kind = k } in e) happened

-- ---- statement of a law

-- the lines of events say these events
abbrev pub LinesAreReadBack : Type 0
LinesAreReadBack = (events : List EventKind) → events_said (event_lines events) ≡ events
