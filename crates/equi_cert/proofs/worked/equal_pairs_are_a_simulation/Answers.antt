use Rattle.std.proofs.Common.{[], refl}
use Rattle.type_table.specs.Table.{next}
use Rattle.type_table.specs.Examples.{one_way}
use Rattle.equi_cert.proofs.Examples.{simulates}
use Rattle.equi_cert.proofs.worked.equal_pairs_are_a_simulation.Goals as goal

pub returns : goal.returns
unfolding next
returns c = simulates one_way [] refl
