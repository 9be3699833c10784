use Rattle.carried_runs.proofs.Carrying.{carried_is_run}
use Rattle.carried_runs.proofs.laws.carried_is_run.Goals as goal

pub returns : goal.returns
returns c = carried_is_run c.carried_in_any_order.ensures
