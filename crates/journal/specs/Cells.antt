-- Numbers that may be NULL, as values of a row.
use Rattle.std.specs.Prelude.{pos}
use Rattle.sqlite_value.specs.declared.value.Value.{Value}
use Rattle.sqlite_value.specs.declared.value.Value.TheVariants as value
use Rattle.journal.specs.declared.cells.Cell.{Cell}
use Rattle.journal.specs.declared.cells.Cell.TheVariants.{Null, Number}

abbrev pub cell_value : Cell → Value
cell_value Null = value.Null
cell_value (Number n) = value.Int (pos n)
