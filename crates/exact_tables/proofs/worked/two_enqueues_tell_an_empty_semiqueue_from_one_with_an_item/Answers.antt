use Rattle.exact_tables.proofs.Examples.{two_enqueues}
use Rattle.exact_tables.proofs.worked.two_enqueues_tell_an_empty_semiqueue_from_one_with_an_item.Goals as goal

pub returns : goal.returns
returns c = two_enqueues
