use Rattle.std.proofs.Common.{refl}
use Rattle.std.proofs.lemmas.Bool.{false≢true}
use Rattle.type_table.specs.Table.{next}
use Rattle.type_table.proofs.worked.ups_do_not_commute_forward.Goals as goal

-- at state 1 each is legal, and both together are not
pub returns : goal.returns
unfolding next
returns c = λ h. false≢true (h 1 refl refl refl).0
