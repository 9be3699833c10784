use Rattle.table_checker.proofs.Covering.{yes-covers}
use Rattle.table_checker.proofs.laws.yes_covers.Goals as goal

pub returns : goal.returns
returns c = yes-covers c.steps_within.ensures c.ends_look.ensures c.bounds_are_numeric.ensures
