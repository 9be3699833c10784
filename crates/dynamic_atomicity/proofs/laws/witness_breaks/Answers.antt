use Rattle.dynamic_atomicity.proofs.Witnessed.{witness_breaks}
use Rattle.dynamic_atomicity.proofs.laws.witness_breaks.Goals as goal

pub returns : goal.returns
returns c = witness_breaks c.runs_along.ensures c.legal_ends.ensures
