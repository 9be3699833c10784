-- Each operation so far has its bounds.
use Rattle.escrow_laws.proofs.Searching.{AreFirstBounds}
use Rattle.escrow_laws.proofs.bounds.bounds_of.Given as goal

abbrev pub invariant-loop-k : goal.invariant-loop-k
invariant-loop-k l = AreFirstBounds l.table l.ops l.k
