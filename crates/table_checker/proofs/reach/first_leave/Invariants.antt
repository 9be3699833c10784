use Rattle.std.proofs.Common.{◌≡◌, ℕ, ◌<◌, length, false}
use Rattle.table_checker.specs.Reach.{leaves_at}
use Rattle.table_checker.proofs.reach.first_leave.Given as goal

abbrev pub invariant-loop-s : goal.invariant-loop-s
invariant-loop-s l = (r c : ℕ) → r < l.s → c < length l.table.ops → leaves_at l.table l.set r c ≡ false
