use Rattle.dynamic_atomicity.proofs.Converse.{breaks_are_enough}
use Rattle.dynamic_atomicity.proofs.laws.breaks_are_enough.Goals as goal

pub returns : goal.returns
returns c = breaks_are_enough c.runs_along.ensures c.legal_ends.ensures
