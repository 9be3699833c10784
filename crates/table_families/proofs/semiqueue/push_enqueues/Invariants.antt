use Rattle.std.proofs.Common.{◌≡◌, ◌++◌, map, take}
use Rattle.table_families.specs.Semiqueue.{enq_op}
use Rattle.table_families.proofs.semiqueue.push_enqueues.Given as goal

-- the enqueues of the elements so far come after what was there before
abbrev pub invariant-loop-e : goal.invariant-loop-e
invariant-loop-e l = l.ops.items ≡ l.initial.ops.items ++ map enq_op (take l.e-index l.elements)
