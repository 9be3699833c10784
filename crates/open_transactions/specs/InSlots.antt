-- Rows in slots: the open transactions have a slot each, and each transaction that began has the index of its slot, or a number in its
-- place where it ended, which is that of no slot.
use Rattle.std.specs.Prelude.{◌≡◌, ◌≢◌, ℕ, ◌<◌, ◌≤◌, List, map, length, Option, None, Some, slice_index_or}

-- the slot of a transaction: `ended` where it ended or never began
abbrev pub slot_of : ℕ → List ℕ → ℕ → ℕ
slot_of ended index t = slice_index_or index t ended

-- what the slots hold, looked up by slot for each transaction
abbrev pub looked : {X : Type 0} → X → List X → List ℕ → List X
looked none held index = map (λ slot. slice_index_or held slot none) index

-- the rows that slots show, each of which shows one
abbrev pub shown_rows : {S R : Type 0} → (S → R) → List S → List ℕ → List (Option R)
shown_rows shown slots index = looked None (map (λ slot. Some (shown slot)) slots) index

-- each open transaction's slot has its number, and each slot's number has that slot
pub record IsPlaced (ended : ℕ) (index numbers : List ℕ) : Type 0 where
  pub few : length numbers ≤ ended
  pub slot : (t : ℕ) → slot_of ended index t ≢ ended → slot_of ended index t < length numbers
  pub same : (t : ℕ) → slot_of ended index t ≢ ended → slice_index_or numbers (slot_of ended index t) 0 ≡ t
  pub back : (k : ℕ) → k < length numbers → slot_of ended index (slice_index_or numbers k 0) ≡ k
