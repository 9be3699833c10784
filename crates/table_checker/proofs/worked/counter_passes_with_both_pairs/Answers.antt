use Rattle.table_checker.proofs.Examples.{counter-passes}
use Rattle.table_checker.proofs.worked.counter_passes_with_both_pairs.Goals as goal

pub returns : goal.returns
returns c = counter-passes
