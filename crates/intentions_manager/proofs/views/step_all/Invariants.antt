use Rattle.std.proofs.Common.{◌≡◌, All, ◌++◌, length, take, drop, map}
use Rattle.intentions_manager.specs.Walk.{view_moved, FitsTable}
use Rattle.intentions_manager.proofs.views.step_all.Given as goal

-- the views so far are moved
abbrev pub invariant-loop-i : goal.invariant-loop-i
invariant-loop-i l = record {
  fit : All (FitsTable l.table) l.views;
  long : length l.views ≡ length l.initial.views;
  exact : l.views ≡ map (view_moved l.table l.fn.k) (take l.i l.initial.views) ++ drop l.i l.initial.views;
}
