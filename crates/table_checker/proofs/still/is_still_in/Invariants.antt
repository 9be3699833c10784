use Rattle.std.proofs.Common.{◌≡◌, true}
use Rattle.table_checker.specs.Still.{all_below, is_still_at}
use Rattle.table_checker.proofs.still.is_still_in.Given as goal

abbrev pub invariant-loop-s : goal.invariant-loop-s
invariant-loop-s l = all_below l.s (is_still_at l.file l.k) ≡ true
