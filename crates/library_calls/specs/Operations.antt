-- The numbers of operations that cross.
use Rattle.std.specs.Prelude.{◌≡◌, ℕ, nat_lt, Option, Some, None, if◌then◌else◌}
use Rattle.table_checker.specs.Checked.{Checked}
use Rattle.declared_types.specs.Declarations.{file_of, IsDeclaredFor, IsFitDeclaration}
use Rattle.declared_types.specs.declared.declared_type.Declaration.{Declaration}

-- above the number of each: the greatest is that of place 255 with the amount 4,294,967,295
abbrev pub operation_count : ℕ
operation_count = 1099511628032

-- the operation with a number
abbrev pub operation_by_number : ℕ → Option ℕ
operation_by_number k = if nat_lt k operation_count then Some k else None

-- ---- what declares a type

-- it declares the type
pub record IsDeclaredBy (c : Checked) (declaration : Declaration) : Type 0 where
  pub file : file_of declaration ≡ c.file
  pub for_kind : IsDeclaredFor c.kind declaration
  pub fit : IsFitDeclaration declaration
