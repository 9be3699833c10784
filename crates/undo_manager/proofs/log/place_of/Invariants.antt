use Rattle.std.proofs.Common.{◌≡◌, ◌+◌, ◌≤◌, length, drop}
use Rattle.undo_manager.proofs.Passing.{opens}
use Rattle.undo_manager.proofs.log.place_of.Given as goal

abbrev pub invariant-loop-left : goal.invariant-loop-left
invariant-loop-left l = record {
  inside : l.position ≤ length l.log;
  passed : opens l.t (drop l.position l.log) + l.left ≡ l.m;
}

abbrev pub decreases-loop-left : goal.decreases-loop-left
decreases-loop-left l = l.position
