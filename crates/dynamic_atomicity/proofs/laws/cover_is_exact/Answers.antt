use Rattle.dynamic_atomicity.proofs.Converse.{cover_is_exact}
use Rattle.dynamic_atomicity.proofs.laws.cover_is_exact.Goals as goal

pub returns : goal.returns
returns c = cover_is_exact c.covered_is_atomic.ensures c.breaks_are_enough.ensures
