use Rattle.table_families.proofs.QueueLists.{numbered}
use Rattle.table_families.proofs.queue.lists_in_order.Goals as goal

pub returns : goal.returns
returns c = numbered
