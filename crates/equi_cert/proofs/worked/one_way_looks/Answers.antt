use Rattle.std.proofs.Common.{[], ◌∷◌, refl}
use Rattle.type_table.specs.Examples.{one_way}
use Rattle.equi_cert.specs.Examples.{related_by}
use Rattle.equi_cert.proofs.worked.one_way_looks.Goals as goal

pub returns : goal.returns
returns c = c.simulation_looks.ensures one_way (related_by 5 ((3, 4) ∷ [])) 3 4 c.one_way_is_a_simulation_one_way.ensures.forward refl
