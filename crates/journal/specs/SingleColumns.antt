-- The columns after the position of a row that an event has of its own.
use Rattle.std.specs.Prelude.{◌≡◌, [], ◌∷◌}
use Rattle.sqlite_value.specs.declared.value.Value.TheVariants.{Text}
use Rattle.sqlite_value.specs.Order.{Row, column}
use Rattle.journal.specs.declared.single_event.EventColumns.{EventColumns}
use Rattle.journal.specs.Cells.{cell_value}
use Rattle.event_text.specs.EventText.{event_word}
use Rattle.journal.specs.SingleEvent.{kind_column, transaction_column, object_column, operation_column, number_column}

abbrev pub columns_of : EventColumns → Row
columns_of c = Text (event_word c.kind) ∷ cell_value c.t ∷ cell_value c.x ∷ cell_value c.k ∷ cell_value c.n ∷ []

-- a row of which each column after the position says so
pub record ToldColumns (row : Row) (c : EventColumns) : Type 0 where
  pub kind : column row kind_column ≡ Text (event_word c.kind)
  pub t : column row transaction_column ≡ cell_value c.t
  pub x : column row object_column ≡ cell_value c.x
  pub k : column row operation_column ≡ cell_value c.k
  pub n : column row number_column ≡ cell_value c.n
