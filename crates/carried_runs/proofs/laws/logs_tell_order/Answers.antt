use Rattle.carried_runs.proofs.Ordering.{logs_tell_order}
use Rattle.carried_runs.proofs.laws.logs_tell_order.Goals as goal

pub returns : goal.returns
returns c = logs_tell_order c.logs_tell_carried.ensures
