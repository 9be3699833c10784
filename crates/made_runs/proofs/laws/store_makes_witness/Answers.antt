use Rattle.made_runs.proofs.Exact.{store_makes_witness}
use Rattle.made_runs.proofs.laws.store_makes_witness.Goals as goal

pub returns : goal.returns
returns c = store_makes_witness c.runs_are_made.ensures c.witness_breaks.ensures
