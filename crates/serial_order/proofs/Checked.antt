-- The headline for objects of types for which the checker said yes.
use Rattle.std.proofs.Common.{List, map, subst}
use Rattle.type_table.proofs.Elements.{found-map}
use Rattle.table_checker.specs.Checked.{Checked}
use Rattle.object_trait.specs.Object.{IsCovered, object_of}
use Rattle.object_trait.specs.Laws.{CheckedIsCovered}
use Rattle.serial_order.specs.Machine.{AreCovered}
use Rattle.serial_order.specs.Laws.{AreChecked, Headline, CheckedHeadline}

-- objects of checked types are covered
pub checked_covered : CheckedIsCovered → (types : List Checked) → AreChecked types → AreCovered (map object_of types)
checked_covered covers types checked = λ x o there.
    let found = found-map object_of types x o there in
    subst IsCovered (found.2) ((covers (found.0) (checked x (found.0) (found.1))).0)

-- the headline
pub checked_headline : CheckedIsCovered → Headline → CheckedHeadline
checked_headline covers whole = λ types H checked going. whole (map object_of types) H (checked_covered covers types checked) going
