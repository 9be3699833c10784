use Rattle.op_locks.proofs.Words.{HasBits-push}
use Rattle.op_locks.proofs.op_locks.OpLocks.hold.Goals as goal

pub invariant_of-self : goal.invariant_of-self
invariant_of-self c = rw c.push_reserved.ensures.items (HasBits-push _ _ _ c.requires.operation c.self.invariant)
