use Rattle.exact_tables.proofs.Examples.{one_dequeue}
use Rattle.exact_tables.proofs.worked.a_dequeue_tells_one_item_from_none.Goals as goal

pub returns : goal.returns
returns c = one_dequeue
