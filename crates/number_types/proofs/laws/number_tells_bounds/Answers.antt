use Rattle.number_types.proofs.Tables.{tells_bounds}
use Rattle.number_types.proofs.laws.number_tells_bounds.Goals as goal

pub returns : goal.returns
returns c = tells_bounds c.bounds_are_told.ensures c.number_has_table.ensures
