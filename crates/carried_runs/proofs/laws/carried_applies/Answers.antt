use Rattle.carried_runs.proofs.Renewing.{carried_applies}
use Rattle.carried_runs.proofs.laws.carried_applies.Goals as goal

pub returns : goal.returns
returns c = carried_applies c.carried_is_run.ensures c.machine_may_apply.ensures
