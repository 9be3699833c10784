use Rattle.std.proofs.Common.{[], ◌∷◌, refl}
use Rattle.store_laws.specs.Examples.{by_seven}
use Rattle.store_laws.proofs.worked.a_rollback_takes_the_last_places.Goals as goal

pub returns-clause-one : goal.returns-clause-one
returns-clause-one c = record { row = by_seven (0 ∷ 1 ∷ []); was = refl; becomes = refl }

pub returns-clause-both : goal.returns-clause-both
returns-clause-both c = record { row = by_seven (0 ∷ 1 ∷ []); was = refl; becomes = refl }
