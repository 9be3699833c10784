use Rattle.std.proofs.Common.{ℕ, ◌<◌}
use Rattle.exact_tables.specs.Nearer.{LeadsNearer}
use Rattle.exact_tables.proofs.telling.first_nearer.Given as goal

abbrev pub invariant-loop-k : goal.invariant-loop-k
invariant-loop-k l = (j : ℕ) → j < l.k → LeadsNearer l.table l.distances l.far l.s l.t j → ⊥
