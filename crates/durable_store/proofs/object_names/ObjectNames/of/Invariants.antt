-- The names of the objects so far.
use Rattle.std.proofs.Common.{take}
use Rattle.durable_store.specs.Names.{IndexesNames}
use Rattle.durable_store.proofs.object_names.ObjectNames.of.Given as goal

abbrev pub invariant-loop-x : goal.invariant-loop-x
invariant-loop-x l = IndexesNames (take l.x l.objects) l.names
