use Rattle.std.proofs.Common.{refl, arith}
use Rattle.table_families.specs.Semiqueue.{SemiqueueFits}
use Rattle.table_families.proofs.QueueTable.{has_table, fits-tested}
use Rattle.table_families.proofs.semiqueue.make_semiqueue.Goals as goal

pub make_file-requires-clause-family : goal.make_file-requires-clause-family
make_file-requires-clause-family c =
    let fits : SemiqueueFits c.args.elements.now c.args.capacity = fits-tested c.args.elements.now c.args.capacity (omega arith) (omega (arith, c.number_within.ensures)) in
    has_table c.args.elements.now c.args.capacity (c.if-not-are_semiqueue_parameters.ensures.0 refl) fits
