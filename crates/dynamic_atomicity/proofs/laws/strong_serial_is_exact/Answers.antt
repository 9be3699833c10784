use Rattle.dynamic_atomicity.proofs.Converse.{strong_serial_is_exact}
use Rattle.dynamic_atomicity.proofs.laws.strong_serial_is_exact.Goals as goal

pub returns : goal.returns
returns c = strong_serial_is_exact c.runs_along.ensures c.legal_ends.ensures c.covered_is_atomic.ensures c.commit_order_keeps.ensures
