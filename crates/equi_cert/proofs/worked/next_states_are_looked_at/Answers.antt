use Rattle.std.proofs.Common.{[], ◌∷◌, refl, lit<}
use Rattle.type_table.specs.Table.{next}
use Rattle.type_table.specs.Examples.{one_way}
use Rattle.equi_cert.proofs.Examples.{simulates, first-fault}
use Rattle.equi_cert.proofs.worked.next_states_are_looked_at.Goals as goal

pub returns-clause-outside : goal.returns-clause-outside
unfolding next
returns-clause-outside c = first-fault one_way ((1, 0) ∷ []) 1 0 0 (lit< tt) (lit< tt) (lit< tt) refl refl refl refl

pub returns-clause-inside : goal.returns-clause-inside
unfolding next
returns-clause-inside c = simulates one_way ((1, 0) ∷ (3, 2) ∷ []) refl
