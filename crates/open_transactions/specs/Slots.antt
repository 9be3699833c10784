-- The slots of open transactions, and the index of each.
use Rattle.std.specs.Prelude.{◌≡◌, ℕ, ◌-◌, ◌≤◌, List, map, length, Option}
use Rattle.open_transactions.specs.declared.open_transactions.OpenTransaction.{OpenTransaction}
use Rattle.open_transactions.specs.Transactions.{Row, count_open}
use Rattle.open_transactions.specs.Index.{ended}
use Rattle.open_transactions.specs.InSlots.{looked, shown_rows, IsPlaced}

-- the number of an open transaction
abbrev pub transaction_number : OpenTransaction → ℕ
transaction_number slot = slot.number

-- its row
abbrev pub open_row : OpenTransaction → Row
open_row slot = record { worker = slot.worker; places = slot.places.items }

-- for how many more places it has room
abbrev pub room_of : OpenTransaction → ℕ
room_of slot = slot.places.capacity - length slot.places.items

-- the rows that slots show
abbrev pub open_rows : List OpenTransaction → List ℕ → List (Option Row)
open_rows slots index = shown_rows open_row slots index

-- the room that slots show
abbrev pub rooms_of : List OpenTransaction → List ℕ → List ℕ
rooms_of slots index = looked 0 (map room_of slots) index

-- what is known of each table of transactions: at most 65,536 are open
pub record AreSlots (slots : List OpenTransaction) (index : List ℕ) : Type 0 where
  pub few : length slots ≤ 65536
  pub placed : IsPlaced ended index (map transaction_number slots)
  pub counted : count_open (open_rows slots index) ≡ length slots
  pub begun : length index ≤ 4294967295
