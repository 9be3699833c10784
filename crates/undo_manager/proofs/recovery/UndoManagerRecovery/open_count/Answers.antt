use Rattle.std.proofs.Common.{◌≡◌, length, ◌∙◌, arith}
use Rattle.undo_manager.specs.Log.{entries}
use Rattle.undo_manager.proofs.Counting.{counts-length}
use Rattle.undo_manager.proofs.Keeping.{counts-fit}
use Rattle.undo_manager.proofs.recovery.UndoManagerRecovery.open_count.Goals as goal

pub overflow_cast-result : goal.overflow_cast-result
overflow_cast-result c =
    let m = c.self.inside in
    omega (arith, counts-fit c.opens_are_counted.ensures (m.checked.value) m.base m.state m.log.items m.opened.items c.self.invariant.0, m.opened.ok.0, c.len.ensures)

pub returns : goal.returns
returns c =
    let m = c.self.inside in
    let long : c.len.result ≡ length m.opened.items = omega (arith, m.opened.ok.0, c.len.ensures) in
    rw (← c.self.view_is) (long ∙ (counts-length c.opens_are_counted.ensures (entries m.log.items) m.opened.items c.self.invariant.0.counted).0)
