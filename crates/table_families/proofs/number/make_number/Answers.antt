use Rattle.std.proofs.Common.{refl, arith}
use Rattle.table_families.proofs.NumberFacts.{is_number}
use Rattle.table_families.proofs.number.make_number.Goals as goal

pub number_with-requires : goal.number_with-requires
number_with-requires c = rw (c.named.ensures, c.in_ok-calls.ensures) (is_number c.args.max c.args.amounts.now (omega arith) (c.if-not-are_number_amounts.ensures.0 refl) (omega arith))
