use Rattle.carried_orders.proofs.Unseen.{ordered_is_unseen}
use Rattle.carried_orders.proofs.laws.ordered_is_unseen.Goals as goal

pub returns : goal.returns
returns c = ordered_is_unseen c.carried_is_run.ensures c.renewal_is_unseen.ensures
