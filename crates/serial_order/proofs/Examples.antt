-- What comes out of small histories, where it takes more than computing.
use Rattle.std.proofs.Common.{◌≡◌, false, [], ◌∷◌, Some, refl, below_none, below_more}
use Rattle.std.specs.Prelude.{take}
use Rattle.std.proofs.lemmas.Bool.{false≢true}
use Rattle.type_table.specs.Table.{next}
use Rattle.type_table.specs.Run.{Looks}
use Rattle.type_table.specs.Examples.{one_way}
use Rattle.object_trait.specs.declared.event.EventKind.TheVariants.{Busy}
use Rattle.serial_order.specs.View.{is_of_call}
use Rattle.serial_order.specs.Machine.{IsFirstOfCall, MayFollow}
use Rattle.serial_order.specs.Serial.{serial_state}
use Rattle.serial_order.specs.Examples.{undo_one_way, undo_counter, one_way_history, lock_history}
use Rattle.serial_order.proofs.Answers.{answer_may_follow}

-- the serial state of the one-way type doesn't look like the kept one, since r is legal after it alone
pub one_way-doesnt_look : Looks one_way (serial_state undo_one_way 0 one_way_history) (Some 3) → ⊥
unfolding next
one_way-doesnt_look looks = false≢true (looks (2 ∷ []) refl)

-- counting down is the only operation of its call
down-least : IsFirstOfCall undo_counter 1
down-least = (refl, below_more (λ k. is_of_call undo_counter 1 k ≡ false) 0 (below_none (λ k. is_of_call undo_counter 1 k ≡ false)) refl)

-- a call to count down may be answered to be busy with transaction 0, which holds the lock
pub lock-may_be_busy : MayFollow (undo_counter ∷ []) (take 4 lock_history) (record { worker = 0; kind = Busy 1 1 0 0 })
unfolding next
lock-may_be_busy = answer_may_follow (undo_counter ∷ []) (take 4 lock_history) 0 undo_counter 0 1 1 refl refl down-least
