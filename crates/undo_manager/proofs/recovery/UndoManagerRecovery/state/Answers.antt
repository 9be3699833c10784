use Rattle.undo_manager.proofs.Keeping.{state-is}
use Rattle.undo_manager.proofs.recovery.UndoManagerRecovery.state.Goals as goal

pub returns : goal.returns
returns c = record {
  exact = rw (← c.self.view_is, c.from.ensures)
      (state-is (c.self.inside.checked.value) c.self.inside.base c.self.inside.state c.self.inside.log.items c.self.inside.opened.items c.self.invariant.0);
}
