use Rattle.std.proofs.Common.{map}
use Rattle.type_table.proofs.Elements.{FirstAre}
use Rattle.object_trait.specs.Steps.{IsFresh}
use Rattle.store.proofs.held_parts.are_fresh.Given as goal

abbrev pub invariant-loop-object : goal.invariant-loop-object
invariant-loop-object g l = FirstAre IsFresh (map g.R.Recovery.meaning l.objects.items) l.object-index
