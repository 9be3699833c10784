-- What is known of a type that was accepted as it was declared.
use Rattle.std.specs.Prelude.{◌≡◌, ℕ, List, Some, slice_get}
use Rattle.type_table.specs.declared.kind.Kind.{Kind}
use Rattle.type_table.specs.declared.kind.Kind.TheVariants.{Escrow}
use Rattle.escrow_laws.specs.Bounds.{bounds_of}
use Rattle.escrow_laws.specs.declared.bounded.Bounded.{Bounded}
use Rattle.number_types.specs.Number.{Number, IsNumber}
use Rattle.number_types.specs.Operations.{number_table}
use Rattle.declared_types.specs.Declarations.{file_of, number_file, IsDeclaredFor}
use Rattle.declared_types.specs.declared.declared_type.Declaration.{Declaration}
use Rattle.declared_types.specs.declared.declared_type.Declaration.TheVariants.{Table, Number as Numbers}
use Rattle.table_checker.specs.Checked.{IsCheckedBy, IsStrongBy}

-- for escrow the bounds of a table's operations are held, and of a number those of the first ones; the others are worked out
abbrev pub HoldsBounds : Kind → Declaration → List Bounded → Type 0
HoldsBounds kind (Table file) bounds = kind ≡ Escrow → bounds ≡ bounds_of file.table
HoldsBounds kind (Numbers number) bounds = (k : ℕ) (b : Bounded) → slice_get bounds k ≡ Some b → slice_get (bounds_of (number_table number)) k ≡ Some b

-- what is known of an accepted type: what was tested, that only for escrow it is a number, and the bounds that are held
pub record IsAccepted (kind : Kind) (declared : Declaration) (bounds : List Bounded) : Type 0 where
  pub checked : IsCheckedBy kind (file_of declared)
  pub kinds : IsDeclaredFor kind declared
  pub bounds_are : HoldsBounds kind declared bounds

-- a number is accepted for escrow, and strongly
abbrev pub NumberIsChecked : Type 0
NumberIsChecked = (v : Number) → IsNumber v → IsCheckedBy Escrow (number_file v) × IsStrongBy Escrow (number_file v)
