-- Statements of laws.
use Rattle.type_table.specs.Commute.{Covers, CoversStrongly}
use Rattle.type_table.specs.ConflictTable.{conflicts}
use Rattle.std.specs.Prelude.{◌≡◌, ℕ, Bool, true}
use Rattle.type_table.specs.Table.{Table}
use Rattle.type_table.specs.StateSet.{has, IsClosed}
use Rattle.type_table.specs.declared.kind.Kind.{Kind}
use Rattle.type_table.specs.declared.kind.Kind.TheVariants.{Undo, Intentions, Escrow}
use Rattle.type_table.specs.declared.table_kind.TableKind.TheVariants as tabled
use Rattle.escrow_laws.specs.Amounts.{Amounts, IsNumeric}
use Rattle.escrow_laws.specs.Bounds.{amounts_of, bounds_of}
use Rattle.declared_types.specs.declared.type_file.TypeFile.{TypeFile}
use Rattle.table_checker.specs.Checked.{Checked, IsChecked, IsStrong, set_by}

-- a type is numeric, in a closed set with the initial state
pub record CoversNumbers (T : Table) (set : ℕ → Bool) (a : Amounts) : Type 0 where
  pub begins_inside : set T.initial ≡ true
  pub closed : IsClosed T set
  pub numeric : IsNumeric T a

-- the file's conflict table for a kind covers its type at the file's set, over all lists of operations; or the type is numeric
abbrev pub CoversType : Kind → TypeFile → Type 0
CoversType Undo file = Covers tabled.Undo file.table (has file.reach) (conflicts file.undo)
CoversType Intentions file = Covers tabled.Intentions file.table (has file.reach) (conflicts file.intentions)
CoversType Escrow file = CoversNumbers file.table (set_by Escrow file) (amounts_of (bounds_of file.table))

abbrev pub CoversTypeStrongly : Kind → TypeFile → Type 0
CoversTypeStrongly Undo file = CoversStrongly tabled.Undo file.table (has file.reach) (conflicts file.undo)
CoversTypeStrongly Intentions file = CoversStrongly tabled.Intentions file.table (has file.reach) (conflicts file.intentions)
CoversTypeStrongly Escrow file = CoversNumbers file.table (set_by Escrow file) (amounts_of (bounds_of file.table))

-- a yes gives covering
abbrev pub YesCovers : Type 0
YesCovers = (c : Checked) → IsChecked c → CoversType c.kind c.file

-- a strong yes gives strong covering
abbrev pub StrongYesCovers : Type 0
StrongYesCovers = (c : Checked) → IsChecked c → IsStrong c → CoversTypeStrongly c.kind c.file
