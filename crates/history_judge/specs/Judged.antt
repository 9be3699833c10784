-- What a judge keeps of events, when it agrees with them, and what it hands out at a commit.
use Rattle.std.specs.Prelude.{◌≡◌, ℕ, List, take, Option, Some, None, IfSome, slice_get}
use Rattle.std.specs.List.{AllByRecursion}
use Rattle.type_table.specs.Table.{Table}
use Rattle.object_trait.specs.declared.event.Event.{Event}
use Rattle.object_trait.specs.declared.event.EventKind.{EventKind}
use Rattle.object_trait.specs.declared.event.EventKind.TheVariants.{Commit}
use Rattle.serial_order.specs.History.{Summary, summary, surviving, IsOperation, ContinuesHistory, IsHistory}
use Rattle.serial_order.specs.declared.entry.Entry.{Entry}
use Rattle.history_judge.specs.Rows.{AreRowsOf, operations_of}
use Rattle.history_judge.specs.Audit.{IsFirstBad}
use Rattle.history_judge.specs.Replay.{AreOperations}
use Rattle.history_judge.specs.declared.committed.Committed.{Committed}
use Rattle.history_judge.specs.declared.executed.Executed.{Executed}
use Rattle.history_judge.specs.declared.event_fault.EventFault.{EventFault}
use Rattle.history_judge.specs.declared.event_fault.EventFault.TheVariants.{Bad}
use Rattle.history_judge.specs.declared.event_fault.EventFault.TheVariants as judge
use Rattle.history_judge.specs.declared.outcome.AuditFault.{AuditFault}
use Rattle.history_judge.specs.declared.outcome.AuditFault.TheVariants.{BadEvent, IllegalOp, NoMemory}

-- the events are a history, with which the rows agree, and each operation that survives is one of an object that is there
pub record IsJudged (tables : List Table) (H : List Event) (rows : List (Option (List Executed))) : Type 0 where
  pub history : IsHistory tables H
  pub agree : AreRowsOf rows (summary H)
  pub there : AllByRecursion (λ (e : Entry). IsOperation (slice_get tables e.at) e.op) (surviving H)

-- the transaction that an event commits, with its operations that survive
abbrev pub committed_as : EventKind → Summary → Option Committed
committed_as (Commit t) s = Some (record { number = t; operations = operations_of t s })
committed_as _ s = None

-- the event at this place may come there, and this is the transaction that it commits, whose operations are of objects that are there
pub record IsHanded (tables : List Table) (H : List Event) (at : ℕ) (done : Option Committed) : Type 0 where
  pub event : Event
  pub here : slice_get H at ≡ Some event
  pub may : ContinuesHistory tables (summary (take at H)) event.kind
  pub is : done ≡ committed_as event.kind (summary (take at H))
  pub there : IfSome done (λ (c : Committed). AreOperations tables c.operations)

-- why the event at this place isn't taken
abbrev pub fault_at : EventFault → ℕ → AuditFault
fault_at Bad at = BadEvent at
fault_at judge.NoMemory at = NoMemory

-- the fault at which the judge stops: the first event that is bad, or memory was refused
abbrev pub StopsJudge : List Table → List Event → AuditFault → Type 0
StopsJudge tables H (BadEvent at) = IsFirstBad tables H at
StopsJudge tables H (IllegalOp i x j) = ⊥
StopsJudge tables H NoMemory = Unit {0}
