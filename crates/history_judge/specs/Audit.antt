-- What an audit says of a list of events: that it is a history whose serial order is legal, or the first reason why not.
use Rattle.std.specs.Prelude.{◌≡◌, ℕ, suc, ◌<◌, List, ◌++◌, length, take, ◌⊎◌, Some, None, Result, Ok, Err, slice_get}
use Rattle.type_table.specs.Table.{Table}
use Rattle.type_table.specs.Run.{run, IsLegal}
use Rattle.object_trait.specs.declared.event.Event.{Event}
use Rattle.serial_order.specs.Operations.{ops, of, serial}
use Rattle.serial_order.specs.History.{commits, summary, ContinuesHistory, IsHistory}
use Rattle.serial_order.specs.Serial.{surviving_at}
use Rattle.history_judge.specs.declared.outcome.Audit.{Audit}
use Rattle.history_judge.specs.declared.outcome.AuditFault.{AuditFault}
use Rattle.history_judge.specs.declared.outcome.AuditFault.TheVariants.{BadEvent, IllegalOp, NoMemory}

-- ---- a yes

-- for each object the state to which the operations of these transactions, one transaction after another, lead from the initial state
pub record LeadToStates (tables : List Table) (H : List Event) (ts finals : List ℕ) : Type 0 where
  pub as_many : length finals ≡ length tables
  pub states : (x : ℕ) (T : Table) (s : ℕ) → slice_get tables x ≡ Some T → slice_get finals x ≡ Some s → run T (Some T.initial) (ops (serial ts (surviving_at x H))) ≡ Some s

-- the commit order, and where it leads
pub record IsAudit (tables : List Table) (H : List Event) (order finals : List ℕ) : Type 0 where
  pub order_is : order ≡ commits H
  pub leads : LeadToStates tables H (commits H) finals

-- ---- the first event that is bad

-- the events before it are a history, and it can't follow them
pub record IsFirstBad (tables : List Table) (H : List Event) (at : ℕ) : Type 0 where
  pub history : IsHistory tables (take at H)
  pub event : Event
  pub there : slice_get H at ≡ Some event
  pub bad : ContinuesHistory tables (summary (take at H)) event.kind → ⊥

-- ---- the first operation that isn't legal

-- at x, what is up to operation j of the transaction t that comes after i others of these
abbrev pub serial_up_to : List Event → List ℕ → ℕ → ℕ → ℕ → ℕ → List ℕ
serial_up_to H ts i t x j = ops (serial (take i ts) (surviving_at x H) ++ take (suc j) (of t (surviving_at x H)))

-- operation j at object x of the i-th of these transactions, each counted from 0, isn't legal after those before it
pub record IsIllegalAt (tables : List Table) (H : List Event) (ts : List ℕ) (i x j : ℕ) : Type 0 where
  pub t : ℕ
  pub table : Table
  pub transaction : slice_get ts i ≡ Some t
  pub object : slice_get tables x ≡ Some table
  pub there : j < length (of t (surviving_at x H))
  pub illegal : run table (Some table.initial) (serial_up_to H ts i t x j) ≡ None

-- the first three numbers come before the other three, in ascending order
abbrev pub ComesBefore : ℕ → ℕ → ℕ → ℕ → ℕ → ℕ → Type 0
ComesBefore i x j k y l = (i < k) ⊎ ((i ≡ k) × ((x < y) ⊎ ((x ≡ y) × (j < l))))

-- the first in ascending order
pub record IsFirstIllegal (tables : List Table) (H : List Event) (ts : List ℕ) (i x j : ℕ) : Type 0 where
  pub illegal : IsIllegalAt tables H ts i x j
  pub first : (k y l : ℕ) → ComesBefore k y l i x j → IsIllegalAt tables H ts k y l → ⊥

-- ---- what an audit says

-- at each object the operations of these transactions, one transaction after another, are legal
abbrev pub AreLegal : List Table → List Event → List ℕ → Type 0
AreLegal tables H ts = (x : ℕ) (T : Table) → slice_get tables x ≡ Some T → IsLegal T (Some T.initial) (ops (serial ts (surviving_at x H)))

-- so they are in commit order
abbrev pub AreSerial : List Table → List Event → Type 0
AreSerial tables H = AreLegal tables H (commits H)

-- a yes with the commit order and the serial states; or the first event that is bad; or, where none is, the first operation that
-- isn't legal in commit order. Where memory was refused nothing is said
abbrev pub Audits : List Table → List Event → Result Audit AuditFault → Type 0
Audits tables H (Ok a) = IsHistory tables H × IsAudit tables H a.order.items a.finals.items
Audits tables H (Err (BadEvent at)) = IsFirstBad tables H at
Audits tables H (Err (IllegalOp i x j)) = IsHistory tables H × IsFirstIllegal tables H (commits H) i x j
Audits tables H (Err NoMemory) = Unit {0}
