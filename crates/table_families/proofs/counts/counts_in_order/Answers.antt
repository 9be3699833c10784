use Rattle.table_families.proofs.Lexicographic.{in_order}
use Rattle.table_families.proofs.counts.counts_in_order.Goals as goal

pub returns : goal.returns
returns c = in_order
