use Rattle.std.proofs.Common.{length}
use Rattle.object_trait.specs.Steps.{IsStrike}
use Rattle.object_calls.specs.Ends.{times_in}
use Rattle.object_calls.proofs.Visited.{IsVisited}
use Rattle.object_calls.proofs.strike.strike_counted.Given as goal

abbrev pub invariant-loop-place : goal.invariant-loop-place
invariant-loop-place g l = IsVisited g.R.Recovery.meaning (λ x m n. IsStrike m l.t (times_in x l.places) n) (length l.fn.counts) l.places l.place-index l.fn.objects.items l.objects.items l.counts
