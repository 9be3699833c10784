use Rattle.number_types.proofs.Tables.{has_table}
use Rattle.number_types.proofs.laws.number_has_table.Goals as goal

pub returns : goal.returns
returns c = has_table c.numbers_have_tables.ensures
