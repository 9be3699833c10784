use Rattle.std.proofs.Common.{[], ◌∷◌, refl}
use Rattle.std.proofs.lemmas.Bool.{false≢true}
use Rattle.type_table.specs.Table.{next}
use Rattle.serial_order.proofs.worked.a_deferred_counter_represents_up_and_down.Goals as goal

-- from the committed state two more ups aren't legal, as they are from 0
pub returns-clause-done_at_once : goal.returns-clause-done_at_once
unfolding next
returns-clause-done_at_once c = λ represents. false≢true (represents.reached.0 (0 ∷ 0 ∷ []) refl)
