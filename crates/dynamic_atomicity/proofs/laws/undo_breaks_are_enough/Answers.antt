use Rattle.dynamic_atomicity.proofs.Converse.{undo_breaks_are_enough}
use Rattle.dynamic_atomicity.proofs.laws.undo_breaks_are_enough.Goals as goal

pub returns : goal.returns
returns c = undo_breaks_are_enough c.runs_along.ensures c.legal_ends.ensures
