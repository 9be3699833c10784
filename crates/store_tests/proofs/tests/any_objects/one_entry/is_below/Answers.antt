use Rattle.std.proofs.Common.{◌∙◌, not, sym, ap, arith}
use Rattle.store_tests.proofs.Blocking.{counted_past}
use Rattle.store_tests.proofs.tests.any_objects.one_entry.is_below.Goals as goal

pub returns-else-is_none-clause-below : goal.returns-else-is_none-clause-below
returns-else-is_none-clause-below c =
    c.if-is_none.false ∙ sym (counted_past c.args.k c.args.ops c.amount.result c.amount.ensures.whole (c.is_none.ensures ∙ ap not c.if-is_none.false) (omega arith))
