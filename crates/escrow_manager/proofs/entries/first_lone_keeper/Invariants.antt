use Rattle.std.proofs.Common.{◌≡◌, drop, not, ◌&&◌, ◌==◌}
use Rattle.std.specs.List.{find}
use Rattle.escrow_laws.specs.Marks.{mark_keeps}
use Rattle.escrow_manager.specs.Marks.{mark_in, mark_keeps_alone}
use Rattle.escrow_manager.proofs.entries.first_lone_keeper.Given as goal

-- none of those so far keeps anybody alone
abbrev pub invariant-loop-entry : goal.invariant-loop-entry
invariant-loop-entry l =
    find (λ e. mark_keeps_alone l.base l.t.mark (mark_in l.top e.by l.marks.items) && (not (e.by == l.t.by) && mark_keeps l.base l.totals.fallen l.totals.risen l.t.mark (mark_in l.top e.by l.marks.items))) (drop l.entry-index l.log.items)
    ≡ find (λ e. mark_keeps_alone l.base l.t.mark (mark_in l.top e.by l.marks.items) && (not (e.by == l.t.by) && mark_keeps l.base l.totals.fallen l.totals.risen l.t.mark (mark_in l.top e.by l.marks.items))) l.log.items
