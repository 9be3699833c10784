use Rattle.std.proofs.Common.{[], ◌∷◌, refl}
use Rattle.history_judge.specs.Examples.{operation}
use Rattle.history_judge.proofs.worked.rows_move.Goals as goal

pub returns-clause-rolled_back : goal.returns-clause-rolled_back
returns-clause-rolled_back c = record { its = operation 1 0 ∷ operation 0 0 ∷ []; was = refl; becomes = refl }

pub returns-clause-ended : goal.returns-clause-ended
returns-clause-ended c = record { its = operation 1 0 ∷ []; was = refl; becomes = refl }
