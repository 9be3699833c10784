use Rattle.std.proofs.Common.{◌≡◌, ℕ, ◌<◌, true}
use Rattle.type_table.specs.Table.{is_same_call}
use Rattle.committed_reads.specs.Still.{is_still}
use Rattle.committed_reads.proofs.still_operations.is_still_call_in.Given as goal

abbrev pub invariant-loop-k : goal.invariant-loop-k
invariant-loop-k l = (q : ℕ) → q < l.k → is_same_call l.checked.file.table q l.fn.c ≡ true → is_still l.checked q ≡ true
