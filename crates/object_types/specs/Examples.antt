-- Objects at two types and at a number, worked by hand.
use Rattle.std.specs.Prelude.{ℕ, List, [], ◌∷◌, None}
use Rattle.type_table.specs.declared.kind.Kind.{Kind}
use Rattle.type_table.specs.declared.kind.Kind.TheVariants.{Undo}
use Rattle.number_types.specs.Examples.{five}
use Rattle.table_checker.specs.Examples.{counter_file, one_way_file}
use Rattle.declared_types.specs.declared.declared_type.Declaration.{Declaration}
use Rattle.declared_types.specs.declared.declared_type.Declaration.TheVariants.{Table, Number as Numbers}
use Rattle.store_text.specs.declared.line.ObjectLine.{ObjectLine}

-- the counter of two and the one-way type, in this order
abbrev pub two_types : List Declaration
two_types = Table counter_file ∷ Table one_way_file ∷ []

-- the counter, and a number
abbrev pub with_a_number : List Declaration
with_a_number = Table counter_file ∷ Numbers five ∷ []

-- an object of a kind, of the type at a place
abbrev pub of_kind : Kind → ℕ → ObjectLine
of_kind kind place = record { kind = kind; file = place; name = None }

-- one with update in place
abbrev pub line_in_place : ℕ → ObjectLine
line_in_place place = of_kind Undo place
