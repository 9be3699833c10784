use Rattle.std.proofs.Common.{◌≡◌, ℕ, ◌<◌, length, slice_get, Some}
use Rattle.type_table.specs.declared.op.Op.{Op}
use Rattle.dynamic_atomicity.proofs.steps.table_steps_have_ops.Given as goal

abbrev pub invariant-loop-op : goal.invariant-loop-op
invariant-loop-op l = (j : ℕ) (op : Op) → j < l.op-index → slice_get l.ops j ≡ Some op → 0 < length op.call
