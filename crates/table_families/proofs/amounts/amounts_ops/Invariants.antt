use Rattle.std.proofs.Common.{◌≡◌, take}
use Rattle.std.specs.List.{flat_map}
use Rattle.table_families.specs.Amounts.{amount_ops}
use Rattle.table_families.proofs.amounts.amounts_ops.Given as goal

-- the operations are those of the amounts so far
abbrev pub invariant-loop-amount : goal.invariant-loop-amount
invariant-loop-amount l = l.ops.items ≡ flat_map (amount_ops l.put l.taken) (take l.amount-index l.amounts)
