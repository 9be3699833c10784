-- What is said of a pair of operations, and of all pairs of a file.
use Rattle.std.specs.Prelude.{◌≡◌, ◌↔◌, ℕ, Bool, true, false, not, ◌&&◌, List, [], length, slice_get, Some}
use Rattle.type_table.specs.ConflictTable.{conflicts}
use Rattle.type_table.specs.declared.table_kind.TableKind.{TableKind}
use Rattle.declared_types.specs.TypeFile.{conflicts_of}
use Rattle.declared_types.specs.declared.type_file.TypeFile.{TypeFile}
use Rattle.pair_needs.specs.Needs.{IsNeed}
use Rattle.pair_needs.specs.Witnesses.{IsLeastWitnessOf}
use Rattle.pair_needs.specs.Mends.{AreLacking, IsTooLarge}
use Rattle.pair_needs.specs.declared.need.Need.{Need}
use Rattle.pair_needs.specs.declared.need.Need.TheVariants.{File}
use Rattle.pair_needs.specs.declared.explained.Explained.{Explained}
use Rattle.pair_needs.specs.declared.explained.Row.{Row}

-- it is by the file alone that a pair fails
abbrev pub is_by_file : Need → Bool
is_by_file File = true
is_by_file need = false

-- the file is to be mended for the pair: it is outside the table, and fails by the file alone
abbrev pub is_to_mend : Explained → Bool
is_to_mend e = not e.listed && is_by_file e.need

-- what is said of a pair: p is requested, q is held
pub record IsExplained (kind : TableKind) (file : TypeFile) (p q : ℕ) (e : Explained) : Type 0 where
  pub requested : e.requested ≡ p
  pub held : e.held ≡ q
  pub listed : e.listed ≡ conflicts (conflicts_of kind file) p q
  pub need : IsNeed kind file p q e.need
  pub witness : IsLeastWitnessOf kind file.table p q e.witness
  pub lacking : is_to_mend e ≡ true → AreLacking kind file p q e.lacking.items
  pub lacks_nothing : is_to_mend e ≡ false → e.lacking.items ≡ []
  pub too_large : (e.too_large ≡ true) ↔ ((is_to_mend e ≡ true) × IsTooLarge kind file p q)

-- and of a requested operation with each held one
pub record IsRow (kind : TableKind) (file : TypeFile) (p : ℕ) (row : Row) : Type 0 where
  pub requested : row.requested ≡ p
  pub whole : length row.pairs.items ≡ length file.table.ops
  pub each : (q : ℕ) (e : Explained) → slice_get row.pairs.items q ≡ Some e → IsExplained kind file p q e

-- and of each requested one
pub record AreRows (kind : TableKind) (file : TypeFile) (rows : List Row) : Type 0 where
  pub whole : length rows ≡ length file.table.ops
  pub each : (p : ℕ) (row : Row) → slice_get rows p ≡ Some row → IsRow kind file p row
