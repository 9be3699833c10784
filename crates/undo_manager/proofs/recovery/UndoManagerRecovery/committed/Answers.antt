use Rattle.std.proofs.Common.{sym, ap, ◌∙◌, subst}
use Rattle.undo_manager.proofs.Keeping.{done-legal, committed-is}
use Rattle.table_checker.specs.Checked.{Checked}
use Rattle.declared_types.specs.Declarations.{IsByTable}
use Rattle.undo_manager.proofs.recovery.UndoManagerRecovery.committed.Goals as goal

pub table-requires : goal.table-requires
table-requires c = subst IsByTable (sym (ap (λ (x : Checked). x.kind) c.deref.ensures ∙ c.self.invariant.0.in_place)) tt

pub committed_after-state-requires-clause-legal : goal.committed_after-state-requires-clause-legal
committed_after-state-requires-clause-legal c =
    let m = c.self.inside in
    rw (c.table.ensures, c.deref.ensures, c.deref-2.ensures.value) (done-legal c.sound_has_committed.ensures m.checked.value m.base m.state m.log.items m.opened.items c.self.invariant.0)

pub returns : goal.returns
returns c =
    let m = c.self.inside in
    let reached = rw (c.table.ensures, c.deref.ensures, c.deref-2.ensures.value) at c.committed_after-state.ensures in
    record { exact = rw (← c.self.view_is, c.from.ensures) (committed-is m.checked.value m.base m.state m.log.items m.opened.items c.committed_after-state.result c.self.invariant.0 reached) }
