use Rattle.std.proofs.Common.{◌≡◌, take}
use Rattle.std.specs.List.{flat_map}
use Rattle.table_families.specs.Counter.{change_ops}
use Rattle.table_families.proofs.counter.counter_ops.Given as goal

-- the operations are those of the amounts so far
abbrev pub invariant-loop-amount : goal.invariant-loop-amount
invariant-loop-amount l = l.ops.items ≡ flat_map change_ops (take l.amount-index l.amounts)
