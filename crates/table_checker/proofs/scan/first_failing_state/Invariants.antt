use Rattle.std.proofs.Common.{◌≡◌, ℕ, ◌<◌, false}
use Rattle.table_checker.specs.Condition.{fails_in_set}
use Rattle.table_checker.proofs.scan.first_failing_state.Given as goal

abbrev pub invariant-loop-s : goal.invariant-loop-s
invariant-loop-s l = (r : ℕ) → r < l.s → fails_in_set l.condition l.file l.p l.q r ≡ false
