use Rattle.std.proofs.Common.{[], ◌∷◌, refl}
use Rattle.type_table.specs.Table.{next}
use Rattle.equi_cert.specs.Examples.{twin}
use Rattle.equi_cert.proofs.Examples.{simulates}
use Rattle.equi_cert.proofs.worked.twin_is_a_simulation_both_ways.Goals as goal

pub returns : goal.returns
unfolding next
returns c = simulates twin ((3, 4) ∷ (4, 3) ∷ []) refl
