use Rattle.object_trait.proofs.Amounts.{told-of-table}
use Rattle.undo_manager.proofs.Keeping.{meaning_of}
use Rattle.undo_manager.proofs.recovery.UndoManagerRecovery.amount_kept.Goals as goal

pub returns : goal.returns
returns c =
    let inside = c.self.inside in
    let m = meaning_of inside.checked.value inside.base inside.log.items in
    rw (← c.self.view_is) (told-of-table m c.self.invariant.0.table c.args._t c.args._place c.args._u)
