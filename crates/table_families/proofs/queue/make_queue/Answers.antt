use Rattle.std.proofs.Common.{refl, arith}
use Rattle.table_families.proofs.QueueFacts.{fits-tested, queue-table}
use Rattle.table_families.proofs.queue.make_queue.Goals as goal

pub make_file-requires-clause-family : goal.make_file-requires-clause-family
make_file-requires-clause-family c =
    let tested = fits-tested c.args.elements.now c.args.capacity c.lists_within-states.result (omega arith) c.lists_within-states.ensures (omega arith) in
    queue-table c.args.elements.now c.args.capacity (c.if-not-are_semiqueue_parameters.ensures.0 refl) tested.0
