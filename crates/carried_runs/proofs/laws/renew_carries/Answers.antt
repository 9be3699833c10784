use Rattle.carried_runs.proofs.Renewing.{renew_carries}
use Rattle.carried_runs.proofs.laws.renew_carries.Goals as goal

pub returns : goal.returns
returns c = renew_carries c.closed_is_epoch.ensures c.closed_is_committed.ensures c.carried_is_run.ensures
