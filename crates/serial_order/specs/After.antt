-- What a history says after one more event, by what it said before; and what is known of every run. Statements of their laws.
use Rattle.std.specs.Prelude.{◌≡◌, ℕ, suc, ◌-◌, ◌<◌, ◌≤◌, List, [], ◌∷◌, ◌++◌, length, map, Bool, true, false, not, ◌&&◌, ◌||◌, ◌==◌, Some, slice_get}
use Rattle.std.specs.List.{flat_map, AllByRecursion}
use Rattle.type_table.specs.Operation.{place_of}
use Rattle.type_table.specs.Table.{Table, has_op}
use Rattle.object_trait.specs.Object.{Object}
use Rattle.object_trait.specs.Strike.{keep_first}
use Rattle.object_trait.specs.Meaning.{Meaning, log_ops, open_of}
use Rattle.object_trait.specs.Steps.{open_transactions}
use Rattle.object_trait.specs.declared.event.Event.{Event}
use Rattle.object_trait.specs.declared.event.EventKind.{EventKind}
use Rattle.object_trait.specs.declared.event.EventKind.TheVariants as kind
use Rattle.object_trait.specs.declared.event.EventKind.TheVariants.{Begin, Op, Busy, Commit, Abort, Rollback}
use Rattle.serial_order.specs.Operations.{is_among, ops, is_by, of}
use Rattle.serial_order.specs.History.{Summary, summary, is_open, surviving, IsOperation, ContinuesHistory}
use Rattle.serial_order.specs.Machine.{May, IsRun}
use Rattle.serial_order.specs.Replay.{open_count}
use Rattle.serial_order.specs.Serial.{surviving_at}
use Rattle.serial_order.specs.Represent.{Represents, IsIdle}

-- ---- one more event

-- what is seen after the event
abbrev pub summary_next : Summary → EventKind → Summary
summary_next s (Begin t) = record s { begun = suc s.begun }
summary_next s (Op k t x) = record s { survives = s.survives ++ (record { by = t; at = x; op = k }) ∷ [] }
summary_next s (Commit t) = record s { committed = s.committed ++ t ∷ [] }
summary_next s (Abort t) = record s { aborted = s.aborted ++ t ∷ []; survives = keep_first (is_by t) 0 s.survives }
summary_next s (Rollback t n) = record s { survives = keep_first (is_by t) (length (of t s.survives) - n) s.survives }
summary_next s _ = s

abbrev pub SummaryAfter : Type 0
SummaryAfter = (H : List Event) (e : Event) → summary (H ++ e ∷ []) ≡ summary_next (summary H) e.kind

-- u is open after the event, where it may come next
abbrev pub is_open_after : Summary → EventKind → ℕ → Bool
is_open_after s (Begin t) u = u == t || is_open s u
is_open_after s (Commit t) u = not (u == t) && is_open s u
is_open_after s (Abort t) u = not (u == t) && is_open s u
is_open_after s _ u = is_open s u

-- how many are open, before and after it
abbrev pub CountsTo : EventKind → ℕ → ℕ → Type 0
CountsTo (Begin t) before now = now ≡ suc before
CountsTo (Commit t) before now = suc now ≡ before
CountsTo (Abort t) before now = suc now ≡ before
CountsTo _ before now = now ≡ before

-- ---- transactions of a run

-- what is known of the transactions of a run
pub record AreInRun (s : Summary) : Type 0 where
  -- a transaction that ended began
  pub committed_began : (t : ℕ) → is_among s.committed t ≡ true → t < s.begun
  pub aborted_began : (t : ℕ) → is_among s.aborted t ≡ true → t < s.begun
  -- none both committed and aborted
  pub apart : (t : ℕ) → is_among s.committed t ≡ true → is_among s.aborted t ≡ false
  -- the operations that survive are of transactions that began and didn't abort
  pub survive : AllByRecursion (λ e. (e.by < s.begun) × (is_among s.aborted e.by ≡ false)) s.survives

abbrev pub TransactionsInRun : Type 0
TransactionsInRun = (objects : List Object) (H : List Event) → IsRun objects H → AreInRun (summary H)

-- an event that may come next opens and ends transactions as it says
abbrev pub OpensAfter : Type 0
OpensAfter =
    (objects : List Object) (s : Summary) (happened : EventKind) → AreInRun s → May objects s happened
    → ((u : ℕ) → is_open (summary_next s happened) u ≡ is_open_after s happened u) × CountsTo happened (open_count s) (open_count (summary_next s happened))

-- and so does one that may come next in a history, whether the machine allows it or not; and what is known stays so
abbrev pub HistoryOpensAfter : Type 0
HistoryOpensAfter =
    (tables : List Table) (s : Summary) (happened : EventKind) → AreInRun s → ContinuesHistory tables s happened
    → AreInRun (summary_next s happened) × ((u : ℕ) → is_open (summary_next s happened) u ≡ is_open_after s happened u)

-- the worker by whose event a transaction began, where it is one
abbrev pub beginner : ℕ → EventKind → List ℕ
beginner w (Begin t) = w ∷ []
beginner w _ = []

-- the workers that began transactions, in order: who began each
abbrev pub beginners : List Event → List ℕ
beginners H = flat_map (λ e. beginner e.worker e.kind) H

-- there is one for each transaction, and one more after each begin
abbrev pub BeginnersAfter : Type 0
BeginnersAfter =
    (H : List Event) → (length (beginners H) ≡ (summary H).begun) × ((e : Event) → beginners (H ++ e ∷ []) ≡ beginners H ++ beginner e.worker e.kind)

-- ---- numbers of a run

-- the numbers of an event are below these: those of objects, of places of operations and of transactions. A rollback strikes some operation,
-- and fewer than the last number
abbrev pub AreBelow : ℕ → ℕ → ℕ → EventKind → Type 0
AreBelow objects ops n (Begin t) = t < n
AreBelow objects ops n (Op k t x) = (t < n) × (x < objects) × (place_of k < ops)
AreBelow objects ops n (Busy c t x u) = (t < n) × (x < objects) × (c < ops) × (u < n)
AreBelow objects ops n (kind.None t x c) = (t < n) × (x < objects) × (c < ops)
AreBelow objects ops n (Commit t) = t < n
AreBelow objects ops n (Abort t) = t < n
AreBelow objects ops n (Rollback t k) = (t < n) × (0 < k) × (k < n)

-- each operation of the table has a place below this
abbrev pub ArePlaces : ℕ → Table → Type 0
ArePlaces places T = (k : ℕ) → has_op T k ≡ true → place_of k < places

-- in a run over objects of no more places than these, each event names what is there: an object, an operation, and transactions
-- by numbers below the number of events, of which a rollback strikes fewer
abbrev pub NumbersInRun : Type 0
NumbersInRun =
    (objects : List Object) (ops : ℕ) (H : List Event) → IsRun objects H
    → ((x : ℕ) (o : Object) → slice_get objects x ≡ Some o → ArePlaces ops o.table)
    → AllByRecursion (λ e. AreBelow (length objects) ops (length H) e.kind) H

-- ---- operations of a run, and objects that represent it

-- each operation that survives is of the table of an object that is there
abbrev pub OperationsInRun : Type 0
OperationsInRun =
    (objects : List Object) (H : List Event) → IsRun objects H
    → AllByRecursion (λ e. IsOperation (slice_get (map (λ o. o.table) objects) e.at) e.op) (surviving H)

-- the open entries of an open transaction are its operations that survive there, and the log is no longer than the history
pub record IsLogCounted (m : Meaning) (x : ℕ) (H : List Event) : Type 0 where
  pub short : length m.log ≤ length H
  pub own : (t : ℕ) → is_open (summary H) t ≡ true → log_ops (open_of t m.log) ≡ ops (of t (surviving_at x H))

abbrev pub LogsAreCounted : Type 0
LogsAreCounted = (m : Meaning) (x : ℕ) (H : List Event) → Represents m x H → IsLogCounted m x H

-- where no open transaction has an operation at x, none is open at the object there
abbrev pub IdleIsClosed : Type 0
IdleIsClosed =
    (objects : List Object) (m : Meaning) (x : ℕ) (H : List Event) → IsRun objects H → Represents m x H → IsIdle x H
    → open_transactions m.log ≡ []
