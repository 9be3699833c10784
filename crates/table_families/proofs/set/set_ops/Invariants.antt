use Rattle.std.proofs.Common.{◌≡◌, take}
use Rattle.std.specs.List.{flat_map}
use Rattle.table_families.specs.Set.{element_ops}
use Rattle.table_families.proofs.set.set_ops.Given as goal

-- the operations are those of the elements so far
abbrev pub invariant-loop-element : goal.invariant-loop-element
invariant-loop-element l = l.ops.items ≡ flat_map element_ops (take l.element-index l.elements)
