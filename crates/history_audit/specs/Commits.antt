-- The committed transactions of a history, each with its operations that survive, and the index of each.
use Rattle.std.specs.Prelude.{◌≡◌, ◌<◌, ℕ, List, length, map, true, false, Option, Some, None, slice_get}
use Rattle.std.specs.List.{AllByRecursion}
use Rattle.type_table.specs.Table.{Table}
use Rattle.object_trait.specs.declared.event.Event.{Event}
use Rattle.serial_order.specs.Operations.{is_among}
use Rattle.serial_order.specs.History.{aborts, commits, summary}
use Rattle.history_judge.specs.Rows.{operations_of}
use Rattle.history_judge.specs.Replay.{AreOperations}
use Rattle.history_judge.specs.declared.committed.Committed.{Committed}

abbrev pub numbers : List Committed → List ℕ
numbers them = map (λ (c : Committed). c.number) them

-- its operations are those of its transaction that survive, and of objects that are there
pub record IsCommittedOf (tables : List Table) (H : List Event) (c : Committed) : Type 0 where
  pub are : c.operations ≡ operations_of c.number (summary H)
  pub there : AreOperations tables c.operations

-- they are the committed transactions, in commit order
pub record AreCommits (tables : List Table) (H : List Event) (them : List Committed) : Type 0 where
  pub in_order : numbers them ≡ commits H
  pub each : (n : ℕ) (c : Committed) → slice_get them n ≡ Some c → IsCommittedOf tables H c

-- no transaction committed and aborted
abbrev pub NoneAborts : List Event → Type 0
NoneAborts H = (t : ℕ) → is_among (commits H) t ≡ true → is_among (aborts H) t ≡ false

-- ---- indexes

-- what is at a number of the indexes, where there is one
abbrev pub index_in : Option (Option ℕ) → Option ℕ
index_in None = None
index_in (Some place) = place

-- the transaction is at the index; or it has none and isn't there
abbrev pub IsIndexOf : List ℕ → ℕ → Option ℕ → Type 0
IsIndexOf ts t (Some place) = slice_get ts place ≡ Some t
IsIndexOf ts t None = is_among ts t ≡ false

abbrev pub AreIndexes : List ℕ → List (Option ℕ) → Type 0
AreIndexes ts places = (t : ℕ) → IsIndexOf ts t (index_in (slice_get places t))

-- the indexes are those of these transactions, whose numbers are below their number
pub record AreIndexed (them : List Committed) (places : List (Option ℕ)) : Type 0 where
  pub below : AllByRecursion (λ (c : Committed). c.number < length places) them
  pub at : AreIndexes (numbers them) places
