use Rattle.std.proofs.Common.{sym, ap, subst, ◌∙◌}
use Rattle.intentions_manager.proofs.Keeping.{legal-told}
use Rattle.table_checker.specs.Checked.{Checked}
use Rattle.declared_types.specs.Declarations.{IsByTable}
use Rattle.intentions_manager.proofs.manager.IntentionsManagerRecovery.legal.Goals as goal

pub table-table-requires : goal.table-table-requires
table-table-requires c = subst IsByTable (sym (ap (λ (x : Checked). x.kind) c.deref.ensures ∙ c.self.invariant.0.deferred)) tt

pub returns : goal.returns
returns c =
    rw (← c.self.view_is, c.is_some.ensures, c.next.ensures.exact, c.column.ensures, c.table-table.ensures, c.deref.ensures, c.seen_by-view.ensures)
    (legal-told c.args.t c.args.k c.self.invariant.0)
