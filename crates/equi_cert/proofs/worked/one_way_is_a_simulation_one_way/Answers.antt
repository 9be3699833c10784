use Rattle.std.proofs.Common.{[], ◌∷◌, refl}
use Rattle.type_table.specs.Table.{next}
use Rattle.type_table.specs.Examples.{one_way}
use Rattle.equi_cert.proofs.Examples.{simulates}
use Rattle.equi_cert.proofs.worked.one_way_is_a_simulation_one_way.Goals as goal

pub returns-clause-forward : goal.returns-clause-forward
unfolding next
returns-clause-forward c = simulates one_way ((3, 4) ∷ []) refl

-- r is legal at state 4, and not at state 3
pub returns-clause-back : goal.returns-clause-back
unfolding next
returns-clause-back c = λ holds. let stuck = (holds 4 3 2 4 refl refl).1 in cc
