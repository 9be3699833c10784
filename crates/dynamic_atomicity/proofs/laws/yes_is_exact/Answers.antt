use Rattle.dynamic_atomicity.proofs.YesExact.{yes_is_exact}
use Rattle.dynamic_atomicity.proofs.laws.yes_is_exact.Goals as goal

pub returns : goal.returns
returns c = yes_is_exact c.steps_within.ensures c.ends_within.ensures c.checked_is_covered.ensures c.cover_is_exact.ensures
