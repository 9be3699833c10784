use Rattle.std.proofs.Common.{◌≡◌, ℕ, ◌<◌, false, length, get_or}
use Rattle.type_table.specs.Limits.{most_ops}
use Rattle.table_checker.specs.Still.{is_still_in}
use Rattle.table_checker.proofs.still.still_operations.Given as goal

abbrev pub invariant-loop-k : goal.invariant-loop-k
invariant-loop-k l = (length l.still ≡ most_ops) × ((q : ℕ) → q < l.k → get_or l.still q false ≡ is_still_in l.file q)
