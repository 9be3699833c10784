-- A row of the table of events: the lines of events that were written together and how many they are, or one event as the formats 1 to 4 have it.
use Rattle.std.specs.Prelude.{◌≡◌, ℕ, ◌+◌, ◌==◌, List, [], ◌∷◌, length, Option, pos, refl, if◌then◌else◌}
use Rattle.std.specs.Prelude as option
use Rattle.std.specs.List.{flat_map}
use Rattle.std.proofs.Common.{ap, ◌∙◌}
use Rattle.type_table.specs.Operation.{operation_at, place_of, amount_of, operation-again}
use Rattle.sqlite_value.specs.declared.value.Value.TheVariants.{Null, Int, Text}
use Rattle.sqlite_value.specs.Order.{Row, bytes, column}
use Rattle.object_trait.specs.declared.event.EventKind.{EventKind}
use Rattle.object_trait.specs.declared.event.EventKind.TheVariants.{Begin, Op, Busy, None, Commit, Abort, Rollback}
use Rattle.event_text.specs.EventText.{event_lines, events_said}
use Rattle.event_text.proofs.ReadBack.{read-back}
use Rattle.journal.specs.declared.event_row.EventRow.{EventRow}
use Rattle.journal.specs.declared.event_row.EventRow.TheVariants.{Lines, Single}
use Rattle.journal.specs.SingleEvent.{amount_value, amount_of_value, event_columns, single_row, single_told}

-- the column of the lines, after that of the position
abbrev pub lines_column : ℕ
lines_column = 2

abbrev pub event_row : ℕ → EventRow → Row
event_row n (Lines events) = Int (pos n) ∷ Null ∷ Text (event_lines events) ∷ Int (pos (length events)) ∷ []
event_row n (Single e) = single_row n e

-- what a row says
abbrev pub event_told : Row → EventRow
event_told row = if length row == 4 then Lines (events_said (bytes (column row lines_column))) else Single (single_told row)

-- the events of a row
abbrev pub events_in_row : EventRow → List EventKind
events_in_row (Lines events) = events
events_in_row (Single e) = e ∷ []

abbrev pub events_in_rows : List EventRow → List EventKind
events_in_rows rows = flat_map events_in_row rows

-- at which place among all events those of each row begin, where those of the first begin at n
abbrev pub row_starts : ℕ → List EventRow → List ℕ
row_starts n [] = []
row_starts n (row ∷ rows) = n ∷ row_starts (n + length (events_in_row row)) rows

pub event_keyed : (n : ℕ) (row : EventRow) → (rest : Row) × (event_row n row ≡ Int (pos n) ∷ rest)
event_keyed n (Lines events) = (Null ∷ Text (event_lines events) ∷ Int (pos (length events)) ∷ [], refl)
event_keyed n (Single e) = (Null ∷ event_columns e, refl)

single_read_back : (n : ℕ) (e : EventKind) → event_told (single_row n e) ≡ Single e
single_read_back n (Begin t) = refl
single_read_back n (Op k t x) = told (amount_of k) ∙ ap (λ k. Single (Op k t x)) (operation-again k)
  where
    told : (amount : Option ℕ) → Single (Op (operation_at (place_of k) (amount_of_value (amount_value amount))) t x) ≡ Single (Op (operation_at (place_of k) amount) t x)
    told option.None = refl
    told (option.Some m) = refl
single_read_back n (Busy c t x u) = refl
single_read_back n (None t x c) = refl
single_read_back n (Commit t) = refl
single_read_back n (Abort t) = refl
single_read_back n (Rollback t m) = refl

pub event_read_back : (n : ℕ) (row : EventRow) → event_told (event_row n row) ≡ row
event_read_back n (Lines events) = ap Lines (read-back events)
event_read_back n (Single e) = single_read_back n e
