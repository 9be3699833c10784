-- What is known before a call of a store, since what is kept agrees with the history. Statements of their laws.
use Rattle.std.specs.Prelude.{◌≡◌, ◌<◌, ◌≤◌, ℕ, ◌-◌, List, [], length, drop, Option, Some, None, is_some, slice_get, slice_index_or, All}
use Rattle.std.specs.List.{count_by}
use Rattle.table_checker.specs.Checked.{IsChecked}
use Rattle.object_trait.specs.Meaning.{Meaning}
use Rattle.object_trait.specs.Steps.{IsFresh}
use Rattle.object_trait.specs.declared.event.Event.{Event}
use Rattle.serial_order.specs.Operations.{of}
use Rattle.serial_order.specs.History.{summary, is_open}
use Rattle.serial_order.specs.Replay.{open_count}
use Rattle.object_calls.specs.Ends.{HasLast}
use Rattle.open_transactions.specs.Transactions.{Row}
use Rattle.store_laws.specs.Kept.{Keeping, IsKept}

-- ---- a new store

-- nothing happened to any object, and no transaction began
pub record IsNew (k : Keeping) : Type 0 where
  pub checked : (x : ℕ) (m : Meaning) → slice_get k.meanings x ≡ Some m → IsChecked m.checked
  pub fresh : (x : ℕ) (m : Meaning) → slice_get k.meanings x ≡ Some m → IsFresh m
  pub rows : k.rows ≡ []

-- it agrees with the empty history
abbrev pub NewIsKept : Type 0
NewIsKept = (k : Keeping) → IsNew k → IsKept k []

-- ---- rows of transactions

-- the row of t, None where t ended or never began
abbrev pub row_before : Keeping → ℕ → Option Row
row_before k t = slice_index_or k.rows t None

-- t is open, and this is its row
abbrev pub IsOpenRow : Keeping → ℕ → Row → Type 0
IsOpenRow k t row = row_before k t ≡ Some row

-- the last n of some places
abbrev pub last_places : ℕ → List ℕ → List ℕ
last_places n places = drop (length places - n) places

-- a transaction is open where it has a row
abbrev pub RowsSayWhoIsOpen : Type 0
RowsSayWhoIsOpen = (k : Keeping) (H : List Event) (t : ℕ) → IsKept k H → is_open (summary H) t ≡ is_some (row_before k t)

-- as many are open as have a row
abbrev pub RowsAreCounted : Type 0
RowsAreCounted = (k : Keeping) (H : List Event) → IsKept k H → open_count (summary H) ≡ count_by is_some k.rows

-- as many of an open transaction's operations survive as its row has places
abbrev pub PlacesAreCounted : Type 0
PlacesAreCounted =
    (k : Keeping) (H : List Event) (t : ℕ) (row : Row) → IsKept k H → IsOpenRow k t row
    → length (of t (summary H).survives) ≡ length row.places

-- no more began than there are events
abbrev pub RowsAreFew : Type 0
RowsAreFew = (k : Keeping) (H : List Event) → IsKept k H → length k.rows ≤ length H

-- and no row has more places
abbrev pub PlacesAreFew : Type 0
PlacesAreFew = (k : Keeping) (H : List Event) (t : ℕ) (row : Row) → IsKept k H → IsOpenRow k t row → length row.places ≤ length H

-- ---- what the calls at the objects ask for

-- the places of an open transaction's operations are those of objects
abbrev pub PlacesAreInside : Type 0
PlacesAreInside =
    (k : Keeping) (H : List Event) (t : ℕ) (row : Row) → IsKept k H → IsOpenRow k t row
    → All (λ x. x < length k.meanings) row.places

-- wherever an open transaction's last n operations are, it has as many open entries as are struck there
abbrev pub HasWhatIsStruck : Type 0
HasWhatIsStruck =
    (k : Keeping) (H : List Event) (t n : ℕ) (row : Row) → IsKept k H → IsOpenRow k t row → HasLast t (last_places n row.places) k.meanings
