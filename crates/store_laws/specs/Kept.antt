-- What a store keeps beside its history, and how it agrees with it.
use Rattle.store_limits.specs.declared.limits.Limits.{Limits}
use Rattle.std.specs.Prelude.{◌≡◌, ℕ, ◌+◌, ◌≤◌, List, map, length, Option, Some, is_some, slice_get}
use Rattle.table_checker.specs.Checked.{IsChecked}
use Rattle.object_trait.specs.Object.{Object, object_of}
use Rattle.object_trait.specs.Meaning.{Meaning}
use Rattle.object_trait.specs.Sound.{IsSound}
use Rattle.object_trait.specs.declared.event.Event.{Event}
use Rattle.serial_order.specs.Operations.{of}
use Rattle.serial_order.specs.History.{Summary, summary, is_open}
use Rattle.serial_order.specs.Machine.{IsRun}
use Rattle.serial_order.specs.Represent.{Represents}
use Rattle.serial_order.specs.Replay.{open_count}
use Rattle.serial_order.specs.After.{beginners}
use Rattle.serial_order.specs.declared.entry.Entry.{Entry}
use Rattle.open_transactions.specs.Transactions.{Row}
use Rattle.store_laws.specs.Stored.{types_of}

-- ---- what is kept

-- the objects' meanings, and a row for each transaction that began: none where it ended
pub record Keeping : Type 0 where
  pub meanings : List Meaning
  pub rows : List (Option Row)

-- what is kept by objects of these meanings and these rows
abbrev pub keeping : List Meaning → List (Option Row) → Keeping
keeping meanings rows = record { meanings = meanings; rows = rows }

-- ---- how it agrees with the history

abbrev pub objects_of : List Meaning → List Object
objects_of ms = map object_of (types_of ms)

-- the places of a transaction's operations that survive
abbrev pub worked_objects : ℕ → Summary → List ℕ
worked_objects t s = map (λ (e : Entry). e.at) (of t s.survives)

-- the object at x: the checker said yes for its type, its meaning is sound, and it represents the history
pub record IsObject (m : Meaning) (x : ℕ) (H : List Event) : Type 0 where
  pub checked : IsChecked m.checked
  pub sound : IsSound m
  pub represents : Represents m x H

-- the row of the transaction t
pub record IsKeptRow (row : Option Row) (t : ℕ) (H : List Event) : Type 0 where
  pub going : is_some row ≡ is_open (summary H) t
  pub worker : (r : Row) → row ≡ Some r → slice_get (beginners H) t ≡ Some r.worker
  pub places : (r : Row) → row ≡ Some r → r.places ≡ worked_objects t (summary H)

-- all of it: the history is a run, each object represents it, and each row is what the history says of its transaction
pub record IsKept (k : Keeping) (H : List Event) : Type 0 where
  pub run : IsRun (objects_of k.meanings) H
  pub objects : (x : ℕ) (m : Meaning) → slice_get k.meanings x ≡ Some m → IsObject m x H
  pub begun : length k.rows ≡ (summary H).begun
  pub transactions : (t : ℕ) (row : Option Row) → slice_get k.rows t ≡ Some row → IsKeptRow row t H

-- and the history has room for the ends of open transactions, in its vector and by its limit
pub record IsStore (k : Keeping) (H : List Event) (capacity : ℕ) (limits : Limits) : Type 0 where
  pub kept : IsKept k H
  pub reserved : length H + open_count (summary H) ≤ capacity
  pub limited : length H + open_count (summary H) ≤ limits.events
