-- The objects of a store, and the texts of their types, as rows.
use Rattle.std.specs.Prelude.{◌≡◌, ℕ, List, [], ◌∷◌, drop, pos, refl, Option, Some, None, unwrap_or}
use Rattle.sqlite_value.specs.declared.value.Value.{Value}
use Rattle.sqlite_value.specs.declared.value.Value.TheVariants.{Null, Int, Text}
use Rattle.sqlite_value.specs.Order.{Row, column, bytes}
use Rattle.sqlite_trees.specs.Objects.{number_in}
use Rattle.type_table.specs.Kind.{kind_of, kind_word}
use Rattle.type_table.specs.declared.kind.Kind.{Kind}
use Rattle.type_table.specs.declared.kind.Kind.TheVariants.{Undo, Intentions, Escrow}
use Rattle.std.proofs.Common.{ap₂}
use Rattle.store_text.specs.declared.line.ObjectLine.{ObjectLine}

-- the column of a name; without one the row ends before it, as in a file that was made before objects had names: SQL reads NULL there
abbrev pub name_columns : Option (List ℕ) → Row
name_columns None = []
name_columns (Some name) = Text name ∷ []

abbrev pub object_row : ℕ → ObjectLine → Row
object_row n o = Int (pos n) ∷ Null ∷ Text (kind_word o.kind) ∷ Int (pos o.file) ∷ name_columns o.name

-- the columns after that of the position
abbrev pub kind_column : ℕ
kind_column = 2

abbrev pub file_column : ℕ
file_column = 3

abbrev pub name_column : ℕ
name_column = 4

abbrev pub name_of_value : Value → Option (List ℕ)
name_of_value (Text name) = Some name
name_of_value _ = None

abbrev pub object_told : Row → ObjectLine
object_told row = record { kind = unwrap_or (kind_of (bytes (column row kind_column))) Undo; file = number_in (column row file_column); name = name_of_value (column row name_column) }

-- a row of which each column after the position says so
pub record ToldObject (row : Row) (o : ObjectLine) : Type 0 where
  pub kind : column row kind_column ≡ Text (kind_word o.kind)
  pub file : column row file_column ≡ Int (pos o.file)
  pub name : drop name_column row ≡ name_columns o.name

same_kind : (kind : Kind) → unwrap_or (kind_of (kind_word kind)) Undo ≡ kind
same_kind Undo = refl
same_kind Intentions = refl
same_kind Escrow = refl

pub object_keyed : (n : ℕ) (o : ObjectLine) → (rest : Row) × (object_row n o ≡ Int (pos n) ∷ rest)
object_keyed n o = (Null ∷ Text (kind_word o.kind) ∷ Int (pos o.file) ∷ name_columns o.name, refl)

pub object_read_back : (n : ℕ) (o : ObjectLine) → object_told (object_row n o) ≡ o
object_read_back n o = ap₂ (λ (kind : Kind) (name : Option (List ℕ)). let it : ObjectLine = record { kind = kind; file = o.file; name = name } in it) (same_kind o.kind) (same_name o.name)
  where
    same_name : (name : Option (List ℕ)) → name_of_value (column (Int (pos n) ∷ Null ∷ Text (kind_word o.kind) ∷ Int (pos o.file) ∷ name_columns name) name_column) ≡ name
    same_name None = refl
    same_name (Some w) = refl
