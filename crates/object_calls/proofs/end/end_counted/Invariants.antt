use Rattle.std.proofs.Common.{length}
use Rattle.object_calls.specs.Ends.{EndsObject}
use Rattle.object_calls.proofs.Visited.{IsVisited}
use Rattle.object_calls.proofs.end.end_counted.Given as goal

abbrev pub invariant-loop-place : goal.invariant-loop-place
invariant-loop-place g l = IsVisited g.R.Recovery.meaning (λ x m n. EndsObject l.how m l.t n) (length l.fn.counts) l.places l.place-index l.fn.objects.items l.objects.items l.counts
