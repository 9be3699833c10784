use Rattle.std.proofs.Common.{map, vec_capacity}
use Rattle.store.proofs.Beginnings.{HasFirstCalls}
use Rattle.store.proofs.held_parts.calls_of.Given as goal

abbrev pub invariant-loop-object : goal.invariant-loop-object
invariant-loop-object g l = HasFirstCalls (map g.R.Recovery.meaning l.objects.items) l.calls.items (vec_capacity l.calls) l.object-index
