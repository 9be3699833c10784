use Rattle.std.proofs.Common.{◌≡◌, ℕ, ◌<◌, ◌≤◌, None}
use Rattle.type_table.specs.Table.{next}
use Rattle.pair_needs.proofs.numeric_fault.first_legal.Given as goal

abbrev pub invariant-loop-s : goal.invariant-loop-s
invariant-loop-s l = (r : ℕ) → l.start ≤ r → r < l.s → next l.table r l.k ≡ None
