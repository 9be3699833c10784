-- The lines of a type file that a row says, and those of its head.
use Rattle.std.specs.Prelude.{Bool, true, false, List, map}
use Rattle.type_text.specs.declared.row.Row.{Row}
use Rattle.type_text.specs.declared.row.Row.TheVariants.{Step as StepRow, Reach as ReachRow, Equi as EquiRow, Conflict as ConflictRow, End as EndRow}
use Rattle.type_text.specs.declared.type_line.TypeLine.{TypeLine}
use Rattle.type_text.specs.declared.type_line.TypeLine.TheVariants.{TypeName, States, Initial, Operation, Step, Reach, Equi, Conflict, End}

-- the line that a row says
abbrev pub line_of_row : Row → TypeLine
line_of_row (StepRow s k t) = Step s k t
line_of_row (ReachRow s) = Reach s
line_of_row (EquiRow s t) = Equi s t
line_of_row (ConflictRow kind p q) = Conflict kind p q
line_of_row EndRow = End

-- those that rows say
abbrev pub lines_of_rows : List Row → List TypeLine
lines_of_rows rows = map line_of_row rows

-- a line of the head: the name, the states, the initial state, or an operation
abbrev pub is_head : TypeLine → Bool
is_head (TypeName name) = true
is_head (States states) = true
is_head (Initial s) = true
is_head (Operation op) = true
is_head (Step s k t) = false
is_head (Reach s) = false
is_head (Equi s t) = false
is_head (Conflict kind p q) = false
is_head End = false
