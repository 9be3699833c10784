use Rattle.carried_orders.proofs.Ordered.{merged_keeps_orders}
use Rattle.carried_orders.proofs.laws.merged_keeps_orders.Goals as goal

pub returns : goal.returns
returns c = merged_keeps_orders c.logs_tell_carried.ensures
