use Rattle.std.proofs.Common.{is_some, sym, ap, ◌∙◌, subst}
use Rattle.undo_manager.proofs.Keeping.{legal-for, legal-next}
use Rattle.table_checker.specs.Checked.{Checked}
use Rattle.declared_types.specs.Declarations.{IsByTable}
use Rattle.undo_manager.proofs.recovery.UndoManagerRecovery.legal.Goals as goal

pub table-table-requires : goal.table-table-requires
table-table-requires c = subst IsByTable (sym (ap (λ (x : Checked). x.kind) c.deref.ensures ∙ c.self.invariant.0.in_place)) tt

pub returns : goal.returns
returns c =
    let m = c.self.inside in
    let same = rw (c.table-table.ensures, c.deref.ensures, c.column.ensures) at c.next.ensures.exact in
    rw (← c.self.view_is) (
      λ yes. legal-for (m.checked.value) m.base m.state m.log.items m.opened.items c.args._t c.args.k c.self.invariant.0 (ap is_some (sym same) ∙ (sym c.is_some.ensures ∙ yes)),
      λ legal. c.is_some.ensures ∙ (ap is_some same ∙ legal-next (m.checked.value) m.base m.state m.log.items m.opened.items c.args._t c.args.k c.self.invariant.0 legal),
    )
