use Rattle.carried_runs.proofs.Repeating.{carried_works}
use Rattle.carried_runs.proofs.laws.carried_works.Goals as goal

pub returns : goal.returns
returns c = carried_works
