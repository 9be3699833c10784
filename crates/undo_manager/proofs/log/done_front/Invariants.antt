use Rattle.std.proofs.Common.{◌≡◌, drop}
use Rattle.undo_manager.specs.Log.{unsettled}
use Rattle.undo_manager.proofs.log.done_front.Given as goal

abbrev pub invariant-loop-count : goal.invariant-loop-count
invariant-loop-count l = unsettled (drop l.count l.log) ≡ unsettled l.log
