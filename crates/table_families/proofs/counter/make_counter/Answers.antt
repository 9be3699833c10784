use Rattle.std.proofs.Common.{refl, arith}
use Rattle.table_families.proofs.CounterFacts.{counter-table}
use Rattle.table_families.proofs.counter.make_counter.Goals as goal

pub make_file-requires-clause-family : goal.make_file-requires-clause-family
make_file-requires-clause-family c = counter-table c.args.cap c.args.amounts.now (c.if-not-are_amounts.ensures.0 refl) (omega arith)
