-- What a contract sees of the transactions of a store.
use Rattle.std.specs.Prelude.{ℕ, Bool, List, [], ◌∷◌, ◌++◌, take, Option, None, Some, is_some, count_by, slice_index_or, slice_set}
use Rattle.std.specs.Option.{option_map}

-- an open transaction: the worker that began it, and the places of its operations that survive, in order of execution
pub record Row : Type 0 where
  pub worker : ℕ
  pub places : List ℕ

-- a row for each transaction that began, None where it ended; for how many more begins there is room; and for each
-- transaction for how many more places there is room
pub record Transactions : Type 0 where
  pub rows : List (Option Row)
  pub room_to_begin : ℕ
  pub room_to_push : List ℕ

-- the row of the transaction with this number, None where it ended or never began
abbrev pub row : {R : Type 0} → List (Option R) → ℕ → Option R
row rows t = slice_index_or rows t None

-- the transaction began and hasn't ended
abbrev pub has_row : {R : Type 0} → List (Option R) → ℕ → Bool
has_row rows t = is_some (row rows t)

-- how many transactions are open
abbrev pub count_open : List (Option Row) → ℕ
count_open rows = count_by is_some rows

-- the worker of a row, and 0 where there is none
abbrev pub worker_of : Option Row → ℕ
worker_of None = 0
worker_of (Some r) = r.worker

-- the places of a row, and none where there is none
abbrev pub objects_of_row : Option Row → List ℕ
objects_of_row None = []
objects_of_row (Some r) = r.places

-- a transaction at its begin
abbrev pub begun_by : ℕ → Row
begun_by worker = record { worker = worker; places = [] }

-- with one more place at the end
abbrev pub pushed : ℕ → Row → Row
pushed x r = record { worker = r.worker; places = r.places ++ x ∷ [] }

-- with the first n places alone
abbrev pub kept : ℕ → Row → Row
kept n r = record { worker = r.worker; places = take n r.places }

-- one row is changed where its transaction is open, and all others are as they were
abbrev pub changed : List (Option Row) → ℕ → (Row → Row) → List (Option Row)
changed rows t change = slice_set rows t (option_map change (row rows t))
