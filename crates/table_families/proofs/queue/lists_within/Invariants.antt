use Rattle.std.proofs.Common.{◌≡◌, min}
use Rattle.table_families.specs.Queue.{shorter}
use Rattle.table_families.proofs.queue.lists_within.Given as goal

-- the lists that are shorter than this
abbrev pub invariant-loop-len : goal.invariant-loop-len
invariant-loop-len l = l.count ≡ min (shorter l.n l._len) 1025
