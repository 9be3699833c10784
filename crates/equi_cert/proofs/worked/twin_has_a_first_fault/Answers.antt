use Rattle.std.proofs.Common.{[], ◌∷◌, refl, lit<}
use Rattle.type_table.specs.Table.{next}
use Rattle.equi_cert.specs.Examples.{twin}
use Rattle.equi_cert.proofs.Examples.{first-fault}
use Rattle.equi_cert.proofs.worked.twin_has_a_first_fault.Goals as goal

pub returns : goal.returns
unfolding next
returns c = first-fault twin ((3, 4) ∷ (4, 3) ∷ (1, 2) ∷ []) 1 2 1 (lit< tt) (lit< tt) (lit< tt) refl refl refl refl
