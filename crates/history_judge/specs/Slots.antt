-- The slots of the open transactions of a history, and the index of each.
use Rattle.std.specs.Prelude.{ℕ, List, [], Option, None, Some}
use Rattle.open_transactions.specs.InSlots.{shown_rows}
use Rattle.history_judge.specs.declared.executed.Executed.{Executed}
use Rattle.history_judge.specs.declared.slots.Slot.{Slot}

-- the number of an open transaction
abbrev pub slot_number : Slot → ℕ
slot_number slot = slot.number

-- its row: its operations that survive
abbrev pub slot_row : Slot → List Executed
slot_row slot = slot.operations

-- the rows that slots show
abbrev pub slot_rows : List Slot → List ℕ → List (Option (List Executed))
slot_rows slots index = shown_rows slot_row slots index

-- the operations of a row, and none where there is none
abbrev pub its_of : Option (List Executed) → List Executed
its_of None = []
its_of (Some its) = its
