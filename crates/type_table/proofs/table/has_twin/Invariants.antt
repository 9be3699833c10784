use Rattle.std.proofs.Common.{◌≡◌, drop}
use Rattle.type_table.specs.Op.{has_twin}
use Rattle.type_table.proofs.table.has_twin.Given as goal

abbrev pub invariant-loop-i : goal.invariant-loop-i
invariant-loop-i l = has_twin (drop l.i l.ops) ≡ has_twin l.ops
