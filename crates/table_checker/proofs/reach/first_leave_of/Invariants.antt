use Rattle.std.proofs.Common.{◌≡◌, ℕ, ◌<◌, false}
use Rattle.table_checker.specs.Reach.{leaves_at}
use Rattle.table_checker.proofs.reach.first_leave_of.Given as goal

abbrev pub invariant-loop-k : goal.invariant-loop-k
invariant-loop-k l = (c : ℕ) → c < l.k → leaves_at l.table l.set l.s c ≡ false
