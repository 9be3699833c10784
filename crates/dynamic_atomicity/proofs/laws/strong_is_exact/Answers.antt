use Rattle.dynamic_atomicity.proofs.Converse.{strong_is_exact}
use Rattle.dynamic_atomicity.proofs.laws.strong_is_exact.Goals as goal

pub returns : goal.returns
returns c = strong_is_exact c.covered_is_atomic.ensures c.commit_order_keeps.ensures c.strong_serial_is_exact.ensures
