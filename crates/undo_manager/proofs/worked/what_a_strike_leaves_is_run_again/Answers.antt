use Rattle.std.proofs.Common.{[], ◌∷◌, refl, arith}
use Rattle.type_table.specs.Table.{next}
use Rattle.object_trait.specs.Examples.{held}
use Rattle.undo_manager.specs.Examples.{at}
use Rattle.undo_manager.proofs.worked.what_a_strike_leaves_is_run_again.Goals as goal

pub returns-clause-all : goal.returns-clause-all
unfolding next
returns-clause-all c = record { rest = at 0 (held 2 0) ∷ []; items = refl; left = refl; steps = (refl, (1, (refl, refl))); fewer = omega arith }

pub returns-clause-last : goal.returns-clause-last
returns-clause-last c = record { rest = []; items = refl; left = refl; steps = refl; fewer = omega arith }
