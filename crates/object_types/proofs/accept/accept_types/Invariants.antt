-- The objects so far have their types.
use Rattle.std.proofs.Common.{map, take}
use Rattle.object_types.specs.Types.{AreTypesOf, value_of}
use Rattle.object_types.proofs.accept.accept_types.Given as goal

abbrev pub invariant-loop-x : goal.invariant-loop-x
invariant-loop-x l = AreTypesOf l.declared (take l.x l.objects) (map value_of l.types.items)
