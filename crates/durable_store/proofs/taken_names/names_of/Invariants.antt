-- The names of the objects so far.
use Rattle.std.proofs.Common.{take}
use Rattle.durable_store.specs.Names.{SayNames}
use Rattle.durable_store.proofs.taken_names.names_of.Given as goal

abbrev pub invariant-loop-object : goal.invariant-loop-object
invariant-loop-object l = SayNames (take l.object-index l.objects) l.names.keys
