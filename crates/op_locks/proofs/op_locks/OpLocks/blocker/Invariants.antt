use Rattle.std.proofs.Common.{◌≡◌, drop}
use Rattle.op_locks.specs.Locks.{blocking_holder}
use Rattle.op_locks.proofs.op_locks.OpLocks.blocker.Given as goal

abbrev pub invariant-loop-held : goal.invariant-loop-held
invariant-loop-held l = blocking_holder l.table l.t l.k (drop l.held-index l.held-items) ≡ blocking_holder l.table l.t l.k l.held-items
