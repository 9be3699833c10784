-- What is true of the parts of a store at any time between two calls.
use Rattle.store_limits.specs.declared.limits.Limits.{Limits}
use Rattle.std.specs.Prelude.{◌≡◌, ℕ, ◌≤◌, List, length, Option, Some, slice_get}
use Rattle.store_limits.specs.Standard.{most_of_each}
use Rattle.object_calls.specs.Calls.{HoldsCalls}
use Rattle.object_calls.specs.declared.call.NamedCall.{NamedCall}
use Rattle.table_checker.specs.Checked.{Checked}
use Rattle.object_trait.specs.Meaning.{Meaning}
use Rattle.object_trait.specs.declared.event.Event.{Event}
use Rattle.serial_order.specs.History.{summary}
use Rattle.serial_order.specs.Replay.{open_count}
use Rattle.open_transactions.specs.Transactions.{Row}
use Rattle.store_laws.specs.Stored.{types_of}
use Rattle.store_laws.specs.Kept.{keeping, IsStore}

-- for each type that a table declares its calls
pub record HasCalls (types : List Checked) (calls : List (List NamedCall)) : Type 0 where
  pub as_many : length calls ≡ length types
  pub each : (x : ℕ) (c : Checked) (its : List NamedCall) → slice_get types x ≡ Some c → slice_get calls x ≡ Some its → HoldsCalls c.file.table its

-- there are no more objects than the limits say, there is room for the place of each, and the limits are no greater than may be
pub record IsLimited (objects : ℕ) (limits : Limits) (places : ℕ) : Type 0 where
  pub few : objects ≤ limits.objects
  pub numbered : limits.objects ≤ most_of_each
  pub slotted : limits.«open» ≤ most_of_each
  pub placed : objects ≤ places

-- what is kept agrees with the history, all is within the limits, and the calls that are held are those of the objects' types
pub record IsWholeStore (ms : List Meaning) (calls : List (List NamedCall)) (rows : List (Option Row)) (H : List Event) (capacity : ℕ) (limits : Limits) (places : ℕ) : Type 0 where
  pub store : IsStore (keeping ms rows) H capacity limits
  pub within : IsLimited (length ms) limits places
  pub few_open : open_count (summary H) ≤ limits.«open»
  pub known : HasCalls (types_of ms) calls
