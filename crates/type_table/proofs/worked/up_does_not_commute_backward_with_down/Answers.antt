use Rattle.std.proofs.Common.{refl}
use Rattle.std.proofs.lemmas.Bool.{false≢true}
use Rattle.type_table.specs.Table.{next}
use Rattle.type_table.proofs.worked.up_does_not_commute_backward_with_down.Goals as goal

-- at state 2 down and then up is legal, and up and then down is not
pub returns : goal.returns
unfolding next
returns c = λ h. false≢true (h 2 refl refl).0
