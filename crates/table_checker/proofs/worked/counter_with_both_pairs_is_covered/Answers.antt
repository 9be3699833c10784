use Rattle.table_checker.proofs.Examples.{accepted_counter, counter-checked}
use Rattle.table_checker.proofs.worked.counter_with_both_pairs_is_covered.Goals as goal

-- what `check` tests holds of the counter's file
pub returns : goal.returns
returns c = c.yes_covers.ensures accepted_counter counter-checked
