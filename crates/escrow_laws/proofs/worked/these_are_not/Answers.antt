use Rattle.std.proofs.Common.{refl, lit<, arith}
use Rattle.type_table.specs.Table.{next}
use Rattle.escrow_laws.specs.Examples.{two_elements, set_of_one}
use Rattle.escrow_laws.proofs.Examples.{first-fault}
use Rattle.escrow_laws.proofs.worked.these_are_not.Goals as goal

pub returns-clause-of_two_elements : goal.returns-clause-of_two_elements
unfolding next
returns-clause-of_two_elements c = first-fault two_elements 3 2 3 5 refl (lit< tt) (lit< tt) refl refl (omega arith) refl (lit< tt)

pub returns-clause-of_set : goal.returns-clause-of_set
unfolding next
returns-clause-of_set c = first-fault set_of_one 1 1 1 1 refl (lit< tt) (lit< tt) refl refl (omega arith) refl (lit< tt)

pub returns-clause-never : goal.returns-clause-never
unfolding next
returns-clause-never c = λ a numeric. c.numeric_is_faultless.ensures set_of_one a numeric 0 1 (first-fault set_of_one 1 1 1 1 refl (lit< tt) (lit< tt) refl refl (omega arith) refl (lit< tt)).fails
