use Rattle.std.proofs.Common.{ℕ, ◌+◌, ◌<◌, ◌≤◌}
use Rattle.table_families.specs.Amounts.{amount_at}
use Rattle.table_families.proofs.number.ascend.Given as goal

-- the amounts before the place ascend
abbrev pub invariant-loop-i : goal.invariant-loop-i
invariant-loop-i l = record {
  begun : 1 ≤ l.i;
  so_far : (i : ℕ) → i + 1 < l.i → amount_at l.amounts i < amount_at l.amounts (i + 1);
}
