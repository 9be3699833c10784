use Rattle.std.proofs.Common.{◌≡◌, ◌+◌, ◌≤◌, length, drop}
use Rattle.undo_manager.proofs.Passing.{opens, IsMarkedFrom}
use Rattle.undo_manager.proofs.log.mark.Given as goal

abbrev pub invariant-loop-left : goal.invariant-loop-left
invariant-loop-left l = record {
  inside : l.position ≤ length l.fn.log.items;
  passed : opens l.t (drop l.position l.fn.log.items) + l.left ≡ l.count;
  marked : IsMarkedFrom l.t l.position l.fn.log.items l.log.items;
}

abbrev pub decreases-loop-left : goal.decreases-loop-left
decreases-loop-left l = l.position
