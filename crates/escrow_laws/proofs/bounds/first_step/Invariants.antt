-- It is legal in no state so far.
use Rattle.escrow_laws.proofs.Searching.{IsIllegalBefore}
use Rattle.escrow_laws.proofs.bounds.first_step.Given as goal

abbrev pub invariant-loop-from : goal.invariant-loop-from
invariant-loop-from l = IsIllegalBefore l.table l.k l.start l.from
