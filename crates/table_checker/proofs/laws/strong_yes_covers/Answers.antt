use Rattle.table_checker.proofs.Covering.{strong_yes-covers}
use Rattle.table_checker.proofs.laws.strong_yes_covers.Goals as goal

pub returns : goal.returns
returns c = strong_yes-covers c.steps_within.ensures c.ends_look.ensures c.bounds_are_numeric.ensures
