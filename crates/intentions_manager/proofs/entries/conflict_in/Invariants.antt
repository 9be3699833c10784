use Rattle.std.proofs.Common.{◌≡◌, drop, not, ◌&&◌, ◌==◌}
use Rattle.std.specs.List.{find}
use Rattle.type_table.specs.ConflictTable.{conflicts}
use Rattle.intentions_manager.proofs.entries.conflict_in.Given as goal

abbrev pub invariant-loop-entry : goal.invariant-loop-entry
invariant-loop-entry l =
    find (λ e. not (e.by == l.t) && conflicts l.table l.k e.op) (drop l.entry-index l.log.items) ≡ find (λ e. not (e.by == l.t) && conflicts l.table l.k e.op) l.log.items
