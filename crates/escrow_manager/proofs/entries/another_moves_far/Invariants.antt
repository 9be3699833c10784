use Rattle.std.proofs.Common.{◌≡◌, drop, not, ◌&&◌, ◌==◌}
use Rattle.std.specs.List.{list_any}
use Rattle.escrow_manager.specs.Marks.{moves_far}
use Rattle.escrow_manager.proofs.entries.another_moves_far.Given as goal

-- none of those so far does so
abbrev pub invariant-loop-open : goal.invariant-loop-open
invariant-loop-open l =
    list_any (λ o. moves_far l.base l.t.mark o.mark && not (o.by == l.t.by)) (drop l.open-index l.marks.items) ≡ list_any (λ o. moves_far l.base l.t.mark o.mark && not (o.by == l.t.by)) l.marks.items
