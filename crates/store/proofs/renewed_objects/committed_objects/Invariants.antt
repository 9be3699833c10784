use Rattle.std.proofs.Common.{map, vec_capacity}
use Rattle.object_trait.specs.Committed.{committed_of}
use Rattle.store.proofs.Renewals.{AreFirstRenewed}
use Rattle.store.proofs.renewed_objects.committed_objects.Given as goal

abbrev pub invariant-loop-object : goal.invariant-loop-object
invariant-loop-object g l = AreFirstRenewed committed_of (map g.R.Recovery.meaning l.objects.items) (map g.R.Recovery.meaning l.renewed.items) (vec_capacity l.renewed) l.object-index
