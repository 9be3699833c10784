-- Stores one after another, each of which began where the one before it ended.
use Rattle.std.specs.Prelude.{◌≡◌, ℕ, List, [], ◌∷◌, ◌++◌, Some, slice_get}
use Rattle.type_table.specs.Run.{run, IsLegal, Looks, AreEqui}
use Rattle.table_checker.specs.Checked.{Checked, IsStrong}
use Rattle.serial_order.specs.Laws.{AreChecked}
use Rattle.serial_order.specs.Machine.{IsRun}
use Rattle.serial_order.specs.Operations.{ops}
use Rattle.serial_order.specs.Serial.{serial_at}
use Rattle.store_laws.specs.Stored.{Stored, objects}
use Rattle.store.specs.Renews.{Extends}

-- the second store is at the end of its time what began where the first one ended, with some objects more or none: it has the types of a
-- store that extended the first
pub record GoesOnFrom (old now : Stored) : Type 0 where
  pub new : Stored
  pub added : List Checked
  pub extends : Extends old added new
  pub types : now.types ≡ new.types

-- each goes on from the one before it
abbrev pub AreRenewals : Stored → List Stored → Type 0
AreRenewals first [] = Unit {0}
AreRenewals first (next ∷ more) = GoesOnFrom first next × AreRenewals next more

-- the last of them
abbrev pub last_of : Stored → List Stored → Stored
last_of first [] = first
last_of first (next ∷ more) = last_of next more

-- the operations of the committed transactions at x, store after store, and in each in commit order
abbrev pub serial_through : ℕ → Stored → List Stored → List ℕ
serial_through x first [] = ops (serial_at x first.history)
serial_through x first (next ∷ more) = ops (serial_at x first.history) ++ serial_through x next more

-- the committed transactions of all of them, store after store and in each in commit order, are legal at x from the first initial state
abbrev pub AreSeriallyLegal : Stored → List Stored → ℕ → Checked → Type 0
AreSeriallyLegal first more x c = IsLegal c.file.table (Some c.file.table.initial) (serial_through x first more)

-- the state at which a store that extends the last one begins looks like the serial state, and is equieffective to it where the yes is strong
pub record BeginsAsSerial (first : Stored) (more : List Stored) (x : ℕ) (c begun : Checked) : Type 0 where
  pub looks : Looks c.file.table (Some begun.file.table.initial) (run c.file.table (Some c.file.table.initial) (serial_through x first more))
  pub equi : IsStrong c → AreEqui c.file.table (Some begun.file.table.initial) (run c.file.table (Some c.file.table.initial) (serial_through x first more))

-- of any number of stores that went on from one another, the last of which may still run
abbrev pub RenewalsAreSerial : Type 0
RenewalsAreSerial =
    (first : Stored) (more : List Stored) → AreChecked first.types → AreRenewals first more → IsRun (objects (last_of first more)) (last_of first more).history
    → (x : ℕ) (c : Checked) → slice_get first.types x ≡ Some c
    → AreSeriallyLegal first more x c
    × ((new : Stored) (added : List Checked) (begun : Checked) → Extends (last_of first more) added new → slice_get new.types x ≡ Some begun → BeginsAsSerial first more x c begun)
