use Rattle.std.proofs.Common.{sym, ap, subst, ◌∙◌}
use Rattle.table_checker.specs.Checked.{Checked}
use Rattle.declared_types.specs.Declarations.{IsByTable}
use Rattle.undo_manager.proofs.Keeping.{fresh-kept}
use Rattle.undo_manager.proofs.undo_manager.UndoManager.fresh.Goals as goal

pub file-requires : goal.file-requires
file-requires c = subst IsByTable (sym (ap (λ (x : Checked). x.kind) c.deref.ensures ∙ c.requires)) tt

pub invariant_of-result : goal.invariant_of-result
invariant_of-result c =
    let checked = rw c.deref.ensures at c.file.ensures.checked in
    let table = rw c.deref.ensures at c.file.ensures.table in
    let initial = rw (c.file.ensures.exact, c.deref.ensures) at c.initial-initial.ensures.exact in
    rw (c.new.ensures.items, c.new-3.ensures.items)
    (fresh-kept c.checked_is_covered.ensures c.fresh_is_sound.ensures c.args.checked.value c.initial-initial.result c.requires table checked initial, c.new-2.ensures)
