use Rattle.std.proofs.Common.{refl}
use Rattle.std.proofs.lemmas.Bool.{false≢true}
use Rattle.type_table.specs.Table.{next}
use Rattle.type_table.proofs.worked.idle_operations_commute_in_the_closed_set.Goals as goal

-- at state 1 both are legal, and q is not after p
pub returns-clause-everywhere : goal.returns-clause-everywhere
unfolding next
returns-clause-everywhere c = λ h. false≢true (h 1 refl refl refl).0
