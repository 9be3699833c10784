-- No operation so far is at fault.
use Rattle.std.proofs.Common.{ℕ, ◌<◌}
use Rattle.escrow_laws.specs.Search.{IsFaultlessAt}
use Rattle.escrow_laws.proofs.bounds.first_fault.Given as goal

abbrev pub invariant-loop-operation : goal.invariant-loop-operation
invariant-loop-operation l = (j : ℕ) → j < l.operation → IsFaultlessAt l.table j
