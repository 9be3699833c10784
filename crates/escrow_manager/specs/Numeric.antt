-- A type in escrow, as a manager knows it.
use Rattle.std.specs.Prelude.{◌≡◌, ℕ, ◌-◌, List, length}
use Rattle.type_table.specs.declared.kind.Kind.TheVariants.{Escrow}
use Rattle.escrow_laws.specs.Bounds.{AreBounds, bounds_of}
use Rattle.escrow_laws.specs.declared.bounded.Bounded.{Bounded}
use Rattle.table_checker.specs.Checked.{Checked, IsNumericType}

-- the greatest of its numbers
abbrev pub greatest : Checked → ℕ
greatest c = c.file.table.states - 1

-- the bounds of its operations
abbrev pub bounds_in : Checked → List Bounded
bounds_in c = bounds_of c.file.table

-- it is for escrow, its states are the numbers from 0 to the greatest, and each of its operations has bounds
pub record IsInEscrow (c : Checked) : Type 0 where
  pub escrow : c.kind ≡ Escrow
  pub numeric : IsNumericType c.file.table
  pub count : length (bounds_in c) ≡ length c.file.table.ops
  pub bounds : AreBounds c.file.table (greatest c) (bounds_in c)
