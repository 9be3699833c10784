use Rattle.std.proofs.Common.{◌≡◌, ℕ, ◌<◌, false}
use Rattle.table_checker.specs.Condition.{fails_at}
use Rattle.table_checker.proofs.scan.first_failure_of.Given as goal

abbrev pub invariant-loop-q : goal.invariant-loop-q
invariant-loop-q l = (b r : ℕ) → b < l.q → r < l.file.table.states → fails_at l.condition l.file l.conflicts l.p b r ≡ false
