use Rattle.std.proofs.Common.{refl, arith}
use Rattle.table_families.proofs.SetFacts.{set-table}
use Rattle.table_families.proofs.set.make_set.Goals as goal

pub invariant_of-rules : goal.invariant_of-rules
invariant_of-rules c = record { fits = omega (arith, (c.if-not-fits.ensures.0 refl).ops) }

pub make_file-requires-clause-family : goal.make_file-requires-clause-family
make_file-requires-clause-family c = set-table c.args.elements.now (c.if-not-are_elements.ensures.0 refl) (c.if-not-fits.ensures.0 refl)
