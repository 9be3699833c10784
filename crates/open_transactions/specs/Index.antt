-- What a contract sees of the slots of transactions.
use Rattle.std.specs.Prelude.{◌≡◌, ◌≢◌, ℕ, List, take, replicate, slice_index_or}

-- in place of a slot: the transaction ended
abbrev pub ended : ℕ
ended = 4294967295

-- the slot of each transaction that began, `ended` where it ended; and for how many more there is room
pub record Index : Type 0 where
  pub slots : List ℕ
  pub room : ℕ

-- as many of these slots in front, and no more, are of transactions that ended
pub record HaveEndedInFront (count : ℕ) (slots : List ℕ) : Type 0 where
  pub front : take count slots ≡ replicate count ended
  pub next : slice_index_or slots count 0 ≢ ended
