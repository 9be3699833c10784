-- How the logs of objects and the places of transactions tell an order in which all that is open was done.
use Rattle.std.specs.Prelude.{◌≡◌, ℕ, ◌<◌, List, map, filter, take, drop, length, true, false, Option, Some, slice_get}
use Rattle.std.specs.List.{AllByRecursion}
use Rattle.object_trait.specs.Meaning.{Meaning}
use Rattle.object_trait.specs.declared.event.Event.{Event}
use Rattle.object_trait.specs.declared.log_entry.LogEntry.{LogEntry}
use Rattle.serial_order.specs.Operations.{is_among, at_object, of}
use Rattle.serial_order.specs.History.{surviving}
use Rattle.serial_order.specs.Represent.{plain}
use Rattle.serial_order.specs.declared.entry.Entry.{Entry}
use Rattle.carried_runs.specs.Carried.{is_carried, number_in, carried_by}
use Rattle.open_transactions.specs.Transactions.{Row, row, worker_of, objects_of_row}
use Rattle.object_trait.specs.declared.event.EventKind.TheVariants.{Op}
use Rattle.carried_orders.specs.declared.merging.Looked.{Looked}
use Rattle.carried_orders.specs.declared.merging.Looked.TheVariants.{Done, Ended, Waits}
use Rattle.carried_orders.specs.declared.merging.Next.{Next}

-- the objects of these operations
abbrev pub worked_at : List Entry → List ℕ
worked_at U = map (λ (e : Entry). e.at) U

-- each row has the places of its transaction's operations
abbrev pub HaveRowsOf : List (Option Row) → List ℕ → List Event → Type 0
HaveRowsOf rows P H = (t : ℕ) → is_among P t ≡ true → objects_of_row (row rows t) ≡ worked_at (of t (surviving H))

-- who began t
abbrev pub beginner_in : List (Option Row) → ℕ → ℕ
beginner_in rows t = worker_of (row rows t)

-- U has at each object what its log tells of P, and of each transaction operations at the first places of its row
pub record IsMerged (ms : List Meaning) (rows : List (Option Row)) (P : List ℕ) (U : List Entry) : Type 0 where
  pub inside : AllByRecursion (λ e. e.at < length ms) U
  pub at_each : (x : ℕ) (m : Meaning) → slice_get ms x ≡ Some m → at_object x U ≡ map (plain x) (filter (is_carried P) m.log)
  pub of_each : (i t : ℕ) → slice_get P i ≡ Some t → (c : ℕ) × (worked_at (of t U) ≡ take c (objects_of_row (row rows t)))

-- the first events of the next epoch, each by the worker that began its transaction
pub record AreMergedEvents (ms : List Meaning) (rows : List (Option Row)) (P : List ℕ) (events : List Event) : Type 0 where
  pub order : List Entry
  pub merged : IsMerged ms rows P order
  pub are : events ≡ carried_by (beginner_in rows) P order

-- so far: of each log as many entries were looked at as `heads` says, and of each transaction as many operations were done again as `counts` says
pub record IsMergedSoFar (ms : List Meaning) (rows : List (Option Row)) (P heads counts : List ℕ) (events : List Event) : Type 0 where
  pub order : List Entry
  pub are : events ≡ carried_by (beginner_in rows) P order
  pub as_many : length heads ≡ length ms
  pub as_many_counts : length counts ≡ length P
  pub inside : AllByRecursion (λ e. e.at < length ms) order
  pub at_each : (x h : ℕ) (m : Meaning) → slice_get ms x ≡ Some m → slice_get heads x ≡ Some h → at_object x order ≡ map (plain x) (filter (is_carried P) (take h m.log))
  pub of_each : (i t c : ℕ) → slice_get P i ≡ Some t → slice_get counts i ≡ Some c → worked_at (of t order) ≡ take c (objects_of_row (row rows t))

-- the next entry of a log, from a place on, that is carried
pub record IsNext (P : List ℕ) (log : List LogEntry) (from : ℕ) (next : Next) : Type 0 where
  pub entry : LogEntry
  pub there : slice_get log next.place ≡ Some entry
  pub mine : is_among P entry.by ≡ true
  pub undone : entry.done ≡ false
  pub transaction : next.transaction ≡ number_in P entry.by
  pub operation : next.op ≡ entry.op
  pub first : filter (is_carried P) (take next.place log) ≡ filter (is_carried P) (take from log)

-- there is none
abbrev pub IsNoneNext : List ℕ → List LogEntry → ℕ → Type 0
IsNoneNext P log from = filter (is_carried P) log ≡ filter (is_carried P) (take from log)

-- in none of the logs there is one
abbrev pub AreAtEnds : List Meaning → List ℕ → List ℕ → Type 0
AreAtEnds ms P heads = (x h : ℕ) (m : Meaning) → slice_get ms x ≡ Some m → slice_get heads x ≡ Some h → IsNoneNext P m.log h

-- it is done again at x, by this worker, of the new number i
abbrev pub again_event : ℕ → ℕ → ℕ → Next → Event
again_event worker i x next = record { worker = worker; kind = Op next.op i x }

-- what is waited for is one of as many as that
abbrev pub WaitsInside : ℕ → Looked → Type 0
WaitsInside count Done = Unit {0}
WaitsInside count Ended = Unit {0}
WaitsInside count (Waits other) = other < count
