use Rattle.undo_manager.proofs.Keeping.{view-is}
use Rattle.undo_manager.proofs.recovery.UndoManagerRecovery.view.Goals as goal

pub returns-clause-exact : goal.returns-clause-exact
returns-clause-exact c =
    rw (← c.self.view_is, c.from.ensures)
    (view-is (c.self.inside.checked.value) c.self.inside.base c.self.inside.state c.self.inside.log.items c.self.inside.opened.items c.args._t c.self.invariant.0)

pub returns-clause-inside : goal.returns-clause-inside
returns-clause-inside c = rw (← c.self.view_is, c.from.ensures) c.self.invariant.0.state_fits
