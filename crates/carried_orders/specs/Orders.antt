-- Orders in which open transactions are carried, by which no answer can tell that they were.
use Rattle.std.specs.Prelude.{◌≡◌, ℕ, List, ◌++◌, map, true, Option, Some, slice_get}
use Rattle.table_checker.specs.Checked.{Checked, IsStrong}
use Rattle.object_trait.specs.Object.{object_of}
use Rattle.object_trait.specs.Meaning.{Meaning}
use Rattle.object_trait.specs.declared.event.Event.{Event}
use Rattle.serial_order.specs.Operations.{is_among, of}
use Rattle.serial_order.specs.History.{summary, is_open, surviving, begins}
use Rattle.serial_order.specs.Machine.{IsRun}
use Rattle.serial_order.specs.Laws.{AreChecked}
use Rattle.serial_order.specs.Epochs.{Epoch, types_behind}
use Rattle.serial_order.specs.declared.entry.Entry.{Entry}
use Rattle.carried_runs.specs.OpenEpochs.{IsOpenEpoch}
use Rattle.carried_runs.specs.Objects.{objects_meant, AreRepresenting}
use Rattle.carried_runs.specs.Carried.{AreOpenOnce, IsCarriedOrder, carried_by}
use Rattle.carried_runs.specs.OldNumbers.{owner_of, named_events}
use Rattle.open_transactions.specs.Transactions.{Row}
use Rattle.carried_orders.specs.Merging.{IsMerged, HaveRowsOf}

-- each yes is strong
abbrev pub AreStrong : List Checked → Type 0
AreStrong types = (x : ℕ) (c : Checked) → slice_get types x ≡ Some c → IsStrong c

-- U is what survives of P, in an order that keeps the order at each object and that of each transaction, which a rollback goes back along
pub record KeepsOrders (P : List ℕ) (H : List Event) (U : List Entry) : Type 0 where
  pub at_each : IsCarriedOrder P H U
  pub of_each : (t : ℕ) → is_among P t ≡ true → of t U ≡ of t (surviving H)

-- where each yes is strong and all open transactions are carried in such an order, what the next epoch does after what is carried is what the old
-- one might have done, had it had the objects that are added
abbrev pub OrderedIsUnseen : Type 0
OrderedIsUnseen =
    (types : List Checked) (e : Epoch) (K : List Event) (worker : ℕ → ℕ) (P : List ℕ) (U : List Entry) → AreChecked types → AreStrong (types ++ e.added)
    → IsOpenEpoch types e → AreOpenOnce P e.history → ((t : ℕ) → is_open (summary e.history) t ≡ true → is_among P t ≡ true)
    → KeepsOrders P e.history U → IsRun (map object_of (types_behind types e)) (carried_by worker P U ++ K)
    → IsRun (map object_of (types ++ e.added)) (e.history ++ named_events (owner_of P (begins e.history)) K)

-- what is merged from the logs of the objects and the places of the transactions is in such an order
abbrev pub MergedKeepsOrders : Type 0
MergedKeepsOrders =
    (ms : List Meaning) (rows : List (Option Row)) (H : List Event) (P : List ℕ) (U : List Entry) → IsRun (objects_meant ms) H → AreRepresenting ms H
    → AreOpenOnce P H → HaveRowsOf rows P H → IsMerged ms rows P U → KeepsOrders P H U
