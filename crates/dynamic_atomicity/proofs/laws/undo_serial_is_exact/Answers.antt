use Rattle.dynamic_atomicity.proofs.Converse.{undo_serial_is_exact}
use Rattle.dynamic_atomicity.proofs.laws.undo_serial_is_exact.Goals as goal

pub returns : goal.returns
returns c = undo_serial_is_exact c.covered_is_atomic.ensures c.commit_order_keeps.ensures c.undo_breaks_are_enough.ensures
