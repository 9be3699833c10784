-- The conflict table of update in place.
use Rattle.std.proofs.Common.{◌≡◌, sym, ap}
use Rattle.type_table.specs.declared.kind.Kind.{Kind}
use Rattle.type_table.specs.declared.kind.Kind.TheVariants.{Undo}
use Rattle.declared_types.specs.declared.type_file.TypeFile.{TypeFile}
use Rattle.object_trait.specs.Object.{conflicts_by}

pub rows-in_place : (kind : Kind) (file : TypeFile) → kind ≡ Undo → file.undo ≡ conflicts_by kind file
rows-in_place kind file in_place = ap (λ k. conflicts_by k file) (sym in_place)
