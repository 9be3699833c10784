-- An event as a row of its own, as the formats 1 to 4 have it: its position, its kind's word, and its transaction, object, operation and number, of which some are NULL.
use Rattle.std.specs.Prelude.{ℕ, [], ◌∷◌, Option, Some, None, pos}
use Rattle.sqlite_value.specs.declared.value.Value.{Value}
use Rattle.sqlite_value.specs.declared.value.Value.TheVariants.{Null, Int, Text}
use Rattle.sqlite_value.specs.Order.{Row, column, bytes}
use Rattle.sqlite_trees.specs.Objects.{number_in}
use Rattle.type_table.specs.Operation.{operation_at, place_of, amount_of}
use Rattle.event_text.specs.EventText.{event_word, word_of_event}
use Rattle.object_trait.specs.declared.event.EventKind.{EventKind}
use Rattle.object_trait.specs.declared.event.EventKind.TheVariants as kind
use Rattle.event_text.specs.declared.event_word.EventWord.{EventWord}
use Rattle.event_text.specs.declared.event_word.EventWord.TheVariants as word

-- the columns of an event that has this kind, these numbers, and no others
abbrev pub columns_of_event : EventWord → ℕ → Value → Value → Value → Row
columns_of_event kind t x k n = Text (event_word kind) ∷ Int (pos t) ∷ x ∷ k ∷ n ∷ []

-- the amount of an operation as a column has it, and back
abbrev pub amount_value : Option ℕ → Value
amount_value None = Null
amount_value (Some n) = Int (pos n)

abbrev pub amount_of_value : Value → Option ℕ
amount_of_value (Int (pos n)) = Some n
amount_of_value _ = None

abbrev pub event_columns : EventKind → Row
event_columns (kind.Begin t) = columns_of_event word.Begin t Null Null Null
event_columns (kind.Op k t x) = columns_of_event word.Op t (Int (pos x)) (Int (pos (place_of k))) (amount_value (amount_of k))
event_columns (kind.Busy c t x u) = columns_of_event word.Busy t (Int (pos x)) (Int (pos c)) (Int (pos u))
event_columns (kind.None t x c) = columns_of_event word.None t (Int (pos x)) (Int (pos c)) Null
event_columns (kind.Commit t) = columns_of_event word.Commit t Null Null Null
event_columns (kind.Abort t) = columns_of_event word.Abort t Null Null Null
event_columns (kind.Rollback t n) = columns_of_event word.Rollback t Null Null (Int (pos n))

-- the row of the event at position n; SQLite keeps the column of the position as NULL, since it is the rowid
abbrev pub single_row : ℕ → EventKind → Row
single_row n e = Int (pos n) ∷ Null ∷ event_columns e

-- the event of this kind with these numbers, of which the last may be none
abbrev pub event_of_row : Option EventWord → ℕ → ℕ → ℕ → Value → EventKind
event_of_row (Some word.Begin) t x k n = kind.Begin t
event_of_row (Some word.Op) t x k n = kind.Op (operation_at k (amount_of_value n)) t x
event_of_row (Some word.Busy) t x k n = kind.Busy k t x (number_in n)
event_of_row (Some word.None) t x k n = kind.None t x k
event_of_row (Some word.Commit) t x k n = kind.Commit t
event_of_row (Some word.Abort) t x k n = kind.Abort t
event_of_row (Some word.Rollback) t x k n = kind.Rollback t (number_in n)
event_of_row None t x k n = kind.Begin t

-- the columns after that of the position
abbrev pub kind_column : ℕ
kind_column = 2

abbrev pub transaction_column : ℕ
transaction_column = 3

abbrev pub object_column : ℕ
object_column = 4

abbrev pub operation_column : ℕ
operation_column = 5

abbrev pub number_column : ℕ
number_column = 6

-- the event that a row says
abbrev pub single_told : Row → EventKind
single_told row = event_of_row (word_of_event (bytes (column row kind_column))) (number_in (column row transaction_column)) (number_in (column row object_column)) (number_in (column row operation_column)) (column row number_column)
