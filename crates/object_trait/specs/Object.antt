-- A checked type as the laws of objects see it.
use Rattle.std.specs.Prelude.{ℕ, Bool, List, []}
use Rattle.type_table.specs.Table.{Table}
use Rattle.type_table.specs.ConflictTable.{conflicts}
use Rattle.type_table.specs.Commute.{Covers, CoversStrongly}
use Rattle.type_table.specs.declared.kind.Kind.{Kind}
use Rattle.type_table.specs.declared.kind.Kind.TheVariants.{Undo, Intentions, Escrow}
use Rattle.type_table.specs.declared.table_kind.TableKind.TheVariants as tabled
use Rattle.escrow_laws.specs.Amounts.{Amounts}
use Rattle.escrow_laws.specs.Bounds.{amounts_of, bounds_of}
use Rattle.declared_types.specs.declared.type_file.TypeFile.{TypeFile}
use Rattle.table_checker.specs.Checked.{Checked, set_by}
use Rattle.table_checker.specs.Laws.{CoversNumbers}

-- the conflict table of the file for a kind; escrow has none
abbrev pub conflicts_by : Kind → TypeFile → List (List Bool)
conflicts_by Undo file = file.undo
conflicts_by Intentions file = file.intentions
conflicts_by Escrow file = []

-- its kind of recovery, its type, the states that were looked at, which requested operation conflicts with which held one, and
-- how much operations give and take
pub record Object : Type 0 where
  pub kind : Kind
  pub table : Table
  pub set : ℕ → Bool
  pub conflicts : ℕ → ℕ → Bool
  pub amounts : Amounts

-- the object of a checked type
abbrev pub object_of : Checked → Object
object_of c = record { kind = c.kind; table = c.file.table; set = set_by c.kind c.file; conflicts = conflicts (conflicts_by c.kind c.file); amounts = amounts_of (bounds_of c.file.table) }

-- its conflict table is enough for its kind, or it is numeric: what a yes of the checker gives
abbrev pub CoversBy : Kind → Object → Type 0
CoversBy Undo o = Covers tabled.Undo o.table o.set o.conflicts
CoversBy Intentions o = Covers tabled.Intentions o.table o.set o.conflicts
CoversBy Escrow o = CoversNumbers o.table o.set o.amounts

abbrev pub IsCovered : Object → Type 0
IsCovered o = CoversBy o.kind o

-- the same, as a strong yes gives it
abbrev pub CoversStronglyBy : Kind → Object → Type 0
CoversStronglyBy Undo o = CoversStrongly tabled.Undo o.table o.set o.conflicts
CoversStronglyBy Intentions o = CoversStrongly tabled.Intentions o.table o.set o.conflicts
CoversStronglyBy Escrow o = CoversNumbers o.table o.set o.amounts

abbrev pub IsCoveredStrongly : Object → Type 0
IsCoveredStrongly o = CoversStronglyBy o.kind o
