-- A store that begins anew while transactions are open, perhaps with objects more, so that no answer can tell it.
use Rattle.std.specs.Prelude.{◌≡◌, ◌+◌, ◌<◌, ◌≤◌, ℕ, List, [], ◌++◌, length, filter, true, false, slice_index_or}
use Rattle.std.specs.List.{range_with_len}
use Rattle.table_checker.specs.Checked.{Checked}
use Rattle.object_trait.specs.Meaning.{Meaning}
use Rattle.object_trait.specs.declared.event.Event.{Event}
use Rattle.serial_order.specs.After.{beginners}
use Rattle.serial_order.specs.History.{summary, is_open, begins}
use Rattle.serial_order.specs.Machine.{IsRun}
use Rattle.serial_order.specs.Epochs.{types_at}
use Rattle.serial_order.specs.declared.entry.Entry.{Entry}
use Rattle.carried_runs.specs.Carried.{carried_by}
use Rattle.carried_runs.specs.OldNumbers.{owner_of, named_events}
use Rattle.carried_runs.specs.OpenEpochs.{IsOpenEpoch}
use Rattle.carried_orders.specs.Orders.{AreStrong, KeepsOrders}
use Rattle.store_laws.specs.Stored.{Stored, objects}
use Rattle.store.specs.Ends.{AreFresh}
use Rattle.store.specs.Renews.{Renews}
use Rattle.store.specs.declared.refusals.CarryRefusal.{CarryRefusal}
use Rattle.store.specs.declared.refusals.CarryRefusal.TheVariants.{NotOpen, TooManyObjects, NotFresh}
use Rattle.store.specs.declared.refusals.CarryRefusal.TheVariants as carry
use Rattle.store.specs.declared.refusals.RenewRefusal.{RenewRefusal}
use Rattle.store.specs.declared.refusals.RenewRefusal.TheVariants.{StillOpen, NoMemory}

-- the open transactions, in the order of their numbers: in the next epoch a transaction has its place among them as its number
abbrev pub open_ones : List Event → List ℕ
open_ones H = filter (is_open (summary H)) (range_with_len 0 (summary H).begun)

-- the worker that began t
abbrev pub began_by : List Event → ℕ → ℕ
began_by H t = slice_index_or (beginners H) t 0

-- the history so far and the committed states are an open epoch, behind which objects of these types are added; the new store is of the types at these
-- states and then of those that are added, and its first events carry all open transactions, each by the worker that began it, in an order that keeps that
-- at each object and that of each transaction
pub record CarriesAll (old : Stored) (added : List Checked) (new : Stored) : Type 0 where
  pub kept : List ℕ
  pub epoch : IsOpenEpoch old.types (record { history = old.history; kept = kept; added = added })
  pub order : List Entry
  pub ordered : KeepsOrders (open_ones old.history) old.history order
  pub is : new ≡ record { types = types_at old.types kept ++ added; history = carried_by (began_by old.history) (open_ones old.history) order; limits = old.limits; forgotten = 0 }

-- whatever the new store does, the old one might have done, had it had the objects that are added, with each transaction's old number
abbrev pub IsUnseen : Stored → List Checked → Stored → Type 0
IsUnseen old added new =
    (K : List Event) → IsRun (objects new) (new.history ++ K)
    → IsRun (objects (record old { types = old.types ++ added })) (old.history ++ named_events (owner_of (open_ones old.history) (begins old.history)) K)

-- a transaction is open
abbrev pub IsSomeOpen : Stored → Type 0
IsSomeOpen s = (t : ℕ) × (is_open (summary s.history) t ≡ true)

-- it goes over into the new one: where nobody is open at the kept states, and else unseen, where each yes is strong
pub data RenewsAll (old new : Stored) : Type 0 where
  closed : ((t : ℕ) → is_open (summary old.history) t ≡ false) → Renews old new → RenewsAll old new
  carried : IsSomeOpen old → AreStrong old.types → CarriesAll old [] new → IsUnseen old [] new → RenewsAll old new

-- why it doesn't: a transaction is open and some yes is one-way; or that isn't so, and memory was refused
abbrev pub StaysBehind : Stored → RenewRefusal → Type 0
StaysBehind s StillOpen = IsSomeOpen s × (AreStrong s.types → ⊥)
StaysBehind s NoMemory = IsSomeOpen s → AreStrong s.types

-- why no store begins in which all that is open goes on, with these objects more: the first reason that holds
abbrev pub RefusesAll : Stored → List Meaning → CarryRefusal → Type 0
RefusesAll s ms NotOpen = ⊥
RefusesAll s ms TooManyObjects = s.limits.objects < length s.types + length ms
RefusesAll s ms NotFresh = (length s.types + length ms ≤ s.limits.objects) × (AreFresh ms → ⊥)
RefusesAll s ms carry.NoMemory = (length s.types + length ms ≤ s.limits.objects) × AreFresh ms
