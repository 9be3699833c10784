-- Statements of laws: of histories, of the machine, and of objects that represent a history.
use Rattle.std.specs.Prelude.{◌≡◌, ◌↔◌, ℕ, ◌+◌, ◌<◌, List, [], ◌∷◌, ◌++◌, length, map, Bool, true, false, not, ◌&&◌, ◌==◌, Some, None, slice_get}
use Rattle.type_table.specs.Table.{first_op}
use Rattle.type_table.specs.Run.{IsLegal}
use Rattle.type_table.specs.declared.kind.Kind.TheVariants.{Undo}
use Rattle.table_checker.specs.Checked.{Checked, IsChecked}
use Rattle.object_trait.specs.Object.{Object, object_of}
use Rattle.object_trait.specs.Orders.{Sorts}
use Rattle.object_trait.specs.Strike.{keep_first}
use Rattle.object_trait.specs.Meaning.{Meaning, object}
use Rattle.object_trait.specs.Steps.{IsFresh, IsLegalFor, stopper, MayApply}
use Rattle.object_trait.specs.declared.event.Event.{Event}
use Rattle.object_trait.specs.declared.event.EventKind.{EventKind}
use Rattle.object_trait.specs.declared.event.EventKind.TheVariants.{Op, Commit}
use Rattle.store_limits.specs.declared.limits.Limits.{Limits}
use Rattle.serial_order.specs.Operations.{is_by, ops}
use Rattle.serial_order.specs.History.{surviving, summary, is_open, IsHistory}
use Rattle.serial_order.specs.View.{view, is_legal_for}
use Rattle.serial_order.specs.Machine.{IsFirstOfCall, MayFollow, IsRun, AreCovered}
use Rattle.serial_order.specs.Serial.{surviving_at, serial_at, pending_at, IsSerial}
use Rattle.serial_order.specs.Represent.{Represents, Changes, KeptAgrees}
use Rattle.serial_order.specs.Answer.{blocker, event_of_call}
use Rattle.std.specs.Option.{option_map}
use Rattle.serial_order.specs.Readings.{survivors}
use Rattle.serial_order.specs.Replay.{refusal, event_of, replay}
use Rattle.serial_order.specs.declared.command.Command.{Command}
use Rattle.serial_order.specs.declared.entry.Entry.{Entry}
use Rattle.serial_order.specs.declared.refusal.Refusal.{Refusal}

-- ---- histories and runs

-- each run of the machine is a history
abbrev pub RunIsHistory : Type 0
RunIsHistory = (objects : List Object) (H : List Event) → IsRun objects H → IsHistory (map (λ o. o.table) objects) H

-- a run goes on by any event that may follow
abbrev pub RunGoesOn : Type 0
RunGoesOn = (objects : List Object) (H : List Event) (e : Event) → IsRun objects H → MayFollow objects H e → IsRun objects (H ++ e ∷ [])

-- what survives is each operation that stays by the events after it
abbrev pub SurvivesAsRead : Type 0
SurvivesAsRead = (H : List Event) → surviving H ≡ survivors H

-- ---- answers

-- the operation that a name finds is one of the table, and the least of its call
abbrev pub FirstOpIsLeast : Type 0
FirstOpIsLeast = (o : Object) (name : List ℕ) (c : ℕ) → first_op o.table name ≡ Some c → IsFirstOfCall o c

-- the answer of a call is one that the machine allows
abbrev pub AnswerMayFollow : Type 0
AnswerMayFollow =
    (objects : List Object) (H : List Event) (x : ℕ) (o : Object) (w t c : ℕ)
    → slice_get objects x ≡ Some o → is_open (summary H) t ≡ true → IsFirstOfCall o c
    → MayFollow objects H (record { worker = w; kind = event_of_call o (summary H) x t c })

-- the history after any commands is a run
abbrev pub ReplayRuns : Type 0
ReplayRuns =
    (objects : List Object) (limits : Limits) (memory_refused : ℕ → Bool) (H : List Event) (commands : List (ℕ × Command))
    → IsRun objects H → IsRun objects (replay objects limits memory_refused H commands)

-- the command appends one event, of this worker: it is the command's, and may follow
pub record IsAppended (objects : List Object) (limits : Limits) (H : List Event) (w : ℕ) (command : Command) : Type 0 where
  pub happened : EventKind
  pub is : event_of objects (summary H) command ≡ Some happened
  pub may_follow : MayFollow objects H (record { worker = w; kind = happened })
  pub appends : replay objects limits (λ _. false) H ((w, command) ∷ []) ≡ H ++ (record { worker = w; kind = happened }) ∷ []

-- where memory isn't refused, a command that isn't refused appends its event
abbrev pub CommandAppends : Type 0
CommandAppends =
    (objects : List Object) (limits : Limits) (H : List Event) (w : ℕ) (command : Command)
    → refusal objects limits H command ≡ None → IsAppended objects limits H w command

-- and a refused one nothing
abbrev pub RefusedAppendsNothing : Type 0
RefusedAppendsNothing =
    (objects : List Object) (limits : Limits) (H : List Event) (w : ℕ) (command : Command) (reason : Refusal)
    → refusal objects limits H command ≡ Some reason → replay objects limits (λ _. false) H ((w, command) ∷ []) ≡ H

-- the replay of two lists is that of the second after that of the first, with places counted on
abbrev pub ReplaysJoin : Type 0
ReplaysJoin =
    (objects : List Object) (limits : Limits) (memory_refused : ℕ → Bool) (H : List Event) (first second : List (ℕ × Command))
    → replay objects limits memory_refused H (first ++ second)
    ≡ replay objects limits (λ i. memory_refused (length first + i)) (replay objects limits memory_refused H first) second

-- ---- update in place

-- a, which comes before b, may move after it
abbrev pub may_pass : Object → Entry → Entry → Bool
may_pass o a b = not (b.by == a.by) && not (o.conflicts b.op a.op)

-- commit order: what survives sorts, neighbour by neighbour, into commit order with the open transactions last
abbrev pub SortsIntoCommitOrder : Type 0
SortsIntoCommitOrder =
    (objects : List Object) (H : List Event) (x : ℕ) (o : Object) → AreCovered objects → IsRun objects H
    → slice_get objects x ≡ Some o → o.kind ≡ Undo → Sorts (may_pass o) (surviving_at x H) (serial_at x H ++ pending_at x H)

-- strike and abort: the view without the last operations of an open transaction is legal, however many of them stay
abbrev pub StruckViewIsLegal : Type 0
StruckViewIsLegal =
    (objects : List Object) (H : List Event) (x : ℕ) (o : Object) (t n : ℕ) → AreCovered objects → IsRun objects H
    → slice_get objects x ≡ Some o → o.kind ≡ Undo → is_open (summary H) t ≡ true
    → IsLegal o.table (Some o.table.initial) (ops (keep_first (is_by t) n (surviving_at x H)))

-- ---- all kinds

-- in a run, what each open transaction sees is legal
abbrev pub ViewsAreLegal : Type 0
ViewsAreLegal =
    (objects : List Object) (H : List Event) (x : ℕ) (o : Object) (t : ℕ) → AreCovered objects → IsRun objects H
    → slice_get objects x ≡ Some o → is_open (summary H) t ≡ true → IsLegal o.table (Some o.table.initial) (ops (view o.kind (summary H) x t))

-- a commit keeps the view of every other open transaction legal
abbrev pub CommitKeepsViews : Type 0
CommitKeepsViews =
    (objects : List Object) (H : List Event) (x : ℕ) (o : Object) (w t u : ℕ) → AreCovered objects → IsRun objects H
    → slice_get objects x ≡ Some o → is_open (summary H) t ≡ true → is_open (summary H) u ≡ true → (u == t) ≡ false
    → IsLegal o.table (Some o.table.initial) (ops (view o.kind (summary (H ++ (record { worker = w; kind = Commit t }) ∷ [])) x u))

-- ---- objects that represent a history

-- a new object represents the empty history
abbrev pub FreshRepresents : Type 0
FreshRepresents = (m : Meaning) (x : ℕ) → IsFresh m → Represents m x []

-- an object goes on representing the history by each kind of event, where the event does to it what it should
abbrev pub RepresentsOn : Type 0
RepresentsOn =
    (objects : List Object) (H : List Event) (e : Event) (x : ℕ) (old new : Meaning)
    → IsRun objects H → MayFollow objects H e → slice_get objects x ≡ Some (object old)
    → Represents old x H → Changes x (summary H) e.kind old new → Represents new x (H ++ e ∷ [])

-- what an object allows is what the view allows
abbrev pub AllowsAlike : Type 0
AllowsAlike =
    (m : Meaning) (x : ℕ) (H : List Event) (t k : ℕ) → is_open (summary H) t ≡ true → Represents m x H
    → IsLegalFor m t k ↔ (is_legal_for (object m) (summary H) x t k ≡ true)

-- who keeps t from k at an object that represents the history is who does by the machine
abbrev pub StopperIsBlocker : Type 0
StopperIsBlocker =
    (objects : List Object) (H : List Event) (x t k : ℕ) (m : Meaning) → IsRun objects H → Represents m x H
    → option_map (λ e. e.by) (blocker (object m) (summary H) x t k) ≡ stopper m t k

-- an operation that the machine allows may be executed, where the log has room
abbrev pub MachineMayApply : Type 0
MachineMayApply =
    (objects : List Object) (H : List Event) (w t x k : ℕ) (m : Meaning)
    → IsRun objects H → MayFollow objects H (record { worker = w; kind = Op k t x }) → slice_get objects x ≡ Some (object m)
    → Represents m x H → length m.log < 4294967295 → MayApply m t k

-- ---- the headline

-- the replies are those of the serial order, and kept states agree with it
pub record IsSerialAndKept (objects : List Object) (H : List Event) : Type 0 where
  pub serially_legal : IsSerial objects H
  pub kept : (x : ℕ) (m : Meaning) → slice_get objects x ≡ Some (object m) → Represents m x H → KeptAgrees m x H

-- for every list of objects covered for their kinds and every run of the machine, the committed transactions, run one after
-- another in commit order, give the same replies at every object, with one commit order for all; and where an object represents
-- the history, its kept state agrees
abbrev pub Headline : Type 0
Headline = (objects : List Object) (H : List Event) → AreCovered objects → IsRun objects H → IsSerialAndKept objects H

-- each of these types was accepted by the checker for its kind
abbrev pub AreChecked : List Checked → Type 0
AreChecked types = (x : ℕ) (c : Checked) → slice_get types x ≡ Some c → IsChecked c

-- so for objects of types for which the checker said yes
abbrev pub CheckedHeadline : Type 0
CheckedHeadline =
    (types : List Checked) (H : List Event) → AreChecked types → IsRun (map object_of types) H
    → IsSerialAndKept (map object_of types) H
