use Rattle.table_checker.proofs.Declared.{numbers_checked}
use Rattle.table_checker.proofs.laws.number_is_checked.Goals as goal

pub returns : goal.returns
returns c = numbers_checked c.number_has_table.ensures c.number_tells_bounds.ensures
