-- All states so far are moved alike.
use Rattle.escrow_laws.proofs.Searching.{AreAlikeBefore}
use Rattle.escrow_laws.proofs.bounds.first_stop.Given as goal

abbrev pub invariant-loop-r : goal.invariant-loop-r
invariant-loop-r l = AreAlikeBefore l.table l.k l.step.from l.step.to l.r
