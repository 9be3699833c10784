use Rattle.std.proofs.Common.{◌≡◌, ℕ, ◌<◌, None, IsSome}
use Rattle.type_table.specs.Table.{next}
use Rattle.exact_tables.proofs.rounds.is_told_at_once.Given as goal

abbrev pub invariant-loop-k : goal.invariant-loop-k
invariant-loop-k l = (j : ℕ) → j < l.k → IsSome (next l.table l.s j) → next l.table l.t j ≡ None → ⊥
