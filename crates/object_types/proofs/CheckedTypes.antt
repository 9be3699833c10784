-- The types of objects were checked.
use Rattle.std.proofs.Common.{◌≡◌, ℕ, ◌<◌, List, length, Some, arith}
use Rattle.std.specs.Prelude.{slice_get}
use Rattle.std.proofs.lemmas.Option.{slice_get_within}
use Rattle.type_table.proofs.Elements.{element_at}
use Rattle.declared_types.specs.declared.declared_type.Declaration.{Declaration}
use Rattle.table_checker.specs.Checked.{Checked, IsChecked}
use Rattle.store_text.specs.declared.line.ObjectLine.{ObjectLine}
use Rattle.object_types.specs.Types.{AreTypesOf}

-- each of them
pub types_checked : (declared : List Declaration) (objects : List ObjectLine) (types : List Checked) → AreTypesOf declared objects types → (x : ℕ) (c : Checked) → slice_get types x ≡ Some c → IsChecked c
types_checked declared objects types are x c there =
    let low : x < length objects = omega (arith, slice_get_within types x c there, are.as_many) in
    let found = element_at objects x low in
    (are.each x found.0 c found.1 there).checked.1
