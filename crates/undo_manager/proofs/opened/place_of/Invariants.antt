use Rattle.std.proofs.Common.{◌≡◌, drop}
use Rattle.undo_manager.specs.Opened.{count_of}
use Rattle.undo_manager.proofs.opened.place_of.Given as goal

abbrev pub invariant-loop-place : goal.invariant-loop-place
invariant-loop-place l = count_of l.t (drop l.place l.counts) ≡ count_of l.t l.counts
