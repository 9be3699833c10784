use Rattle.std.proofs.Common.{◌≡◌, ℕ, ◌<◌, length, false}
use Rattle.table_checker.specs.Condition.{fails_at}
use Rattle.table_checker.proofs.scan.first_failure.Given as goal

abbrev pub invariant-loop-p : goal.invariant-loop-p
invariant-loop-p l = (a b r : ℕ) → a < l.p → b < length l.file.table.ops → r < l.file.table.states → fails_at l.condition l.file l.conflicts a b r ≡ false
