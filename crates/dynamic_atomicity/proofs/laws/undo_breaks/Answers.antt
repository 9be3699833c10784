use Rattle.dynamic_atomicity.proofs.Breaking.{undo_breaks}
use Rattle.dynamic_atomicity.proofs.laws.undo_breaks.Goals as goal

pub returns : goal.returns
returns c = undo_breaks c.runs_along.ensures c.legal_ends.ensures
