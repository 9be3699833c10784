use Rattle.std.proofs.Common.{[], ◌∷◌, refl, lit<}
use Rattle.type_table.specs.Table.{next}
use Rattle.type_table.specs.Examples.{one_way}
use Rattle.equi_cert.proofs.Examples.{first-fault}
use Rattle.equi_cert.proofs.worked.one_way_has_first_faults.Goals as goal

pub returns-clause-back : goal.returns-clause-back
unfolding next
returns-clause-back c = first-fault one_way ((4, 3) ∷ []) 4 3 2 (lit< tt) (lit< tt) (lit< tt) refl refl refl refl

pub returns-clause-initial : goal.returns-clause-initial
unfolding next
returns-clause-initial c = first-fault one_way ((4, 3) ∷ (0, 3) ∷ []) 0 3 0 (lit< tt) (lit< tt) (lit< tt) refl refl refl refl
