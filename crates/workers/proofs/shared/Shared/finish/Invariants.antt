-- Nothing but this worker changed; each of its turns takes one from those that it has left.
use Rattle.workers.specs.SharedCalls.{LeavesOthers, left_at}
use Rattle.workers.proofs.shared.Shared.finish.Given as goal

abbrev pub invariant-loop : goal.invariant-loop
invariant-loop g l = LeavesOthers l.fn.self l.w l.self

abbrev pub decreases-loop : goal.decreases-loop
decreases-loop g l = left_at l.self.workers l.w
