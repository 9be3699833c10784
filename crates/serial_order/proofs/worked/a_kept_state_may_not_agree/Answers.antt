use Rattle.std.proofs.Common.{[], ◌∷◌, refl}
use Rattle.std.proofs.lemmas.Bool.{false≢true, true≢false}
use Rattle.type_table.specs.Table.{next}
use Rattle.serial_order.proofs.worked.a_kept_state_may_not_agree.Goals as goal

-- counting down is legal at 1, and not at 0, where the serial order ends
pub returns-clause-in_place : goal.returns-clause-in_place
unfolding next
returns-clause-in_place c = λ agrees. false≢true ((agrees (refl, (refl, tt))).0 (1 ∷ []) refl)

-- a transaction is open
pub returns-clause-not_asked : goal.returns-clause-not_asked
returns-clause-not_asked c = λ idle. absurd (true≢false idle.1.0)

-- from 0 two more ups are legal, and not from 1, where the serial order ends
pub returns-clause-deferred : goal.returns-clause-deferred
unfolding next
returns-clause-deferred c = λ agrees. false≢true (agrees.0 (0 ∷ 0 ∷ []) refl)
