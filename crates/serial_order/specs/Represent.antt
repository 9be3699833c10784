-- What an object represents: when its base and its log are what a history says of it, and what its kept state then owes the
-- serial state.
use Rattle.std.specs.Prelude.{◌≡◌, ℕ, ◌-◌, List, ◌++◌, map, drop, length, true, false, cond, ◌==◌, Option, Some}
use Rattle.std.specs.List.{AllByRecursion}
use Rattle.type_table.specs.Run.{run, Looks, AreEqui}
use Rattle.type_table.specs.declared.kind.Kind.{Kind}
use Rattle.type_table.specs.declared.kind.Kind.TheVariants.{Undo, Intentions, Escrow}
use Rattle.object_trait.specs.Object.{Object, IsCoveredStrongly}
use Rattle.object_trait.specs.Meaning.{Meaning, object, state_of}
use Rattle.object_trait.specs.Steps.{applied, IsCommit, IsAbort, IsStrike}
use Rattle.object_trait.specs.declared.event.Event.{Event}
use Rattle.object_trait.specs.declared.event.EventKind.{EventKind}
use Rattle.object_trait.specs.declared.event.EventKind.TheVariants.{Op, Commit, Abort, Rollback}
use Rattle.object_trait.specs.declared.log_entry.LogEntry.{LogEntry}
use Rattle.serial_order.specs.Operations.{is_among, ops, at_object, of, serial, pending}
use Rattle.serial_order.specs.History.{Summary, summary, is_open, commits}
use Rattle.serial_order.specs.Serial.{surviving_at, serial_state}
use Rattle.serial_order.specs.declared.entry.Entry.{Entry}

-- an entry of the log at x, as an operation that survives
abbrev pub plain : ℕ → LogEntry → Entry
plain x e = record { by = e.by; at = x; op = e.op }

-- update in place: base is the state after some operations of committed transactions, and the log is what survives after them,
-- with the entries of committed transactions done
pub record RepresentsUndo (o : Object) (base : ℕ) (log : List LogEntry) (x : ℕ) (committed : List ℕ) (V : List Entry) : Type 0 where
  pub past : List Entry
  pub reached : run o.table (Some o.table.initial) (ops past) ≡ Some base
  pub whole : past ++ map (plain x) log ≡ V
  pub ended : AllByRecursion (λ e. is_among committed e.by ≡ true) past
  pub flags : AllByRecursion (λ e. e.done ≡ is_among committed e.by) log

-- deferred update: base is equieffective to the serial state, and the log is what survives of open transactions
pub record RepresentsIntentions (o : Object) (base : ℕ) (log : List LogEntry) (x : ℕ) (committed : List ℕ) (V : List Entry) : Type 0 where
  pub reached : AreEqui o.table (Some base) (run o.table (Some o.table.initial) (ops (serial committed V)))
  pub whole : map (plain x) log ≡ pending committed V
  pub flags : AllByRecursion (λ e. e.done ≡ false) log

-- escrow: base is the serial state, and the log is what survives of open transactions
pub record RepresentsEscrow (o : Object) (base : ℕ) (log : List LogEntry) (x : ℕ) (committed : List ℕ) (V : List Entry) : Type 0 where
  pub reached : run o.table (Some o.table.initial) (ops (serial committed V)) ≡ Some base
  pub whole : map (plain x) log ≡ pending committed V
  pub flags : AllByRecursion (λ e. e.done ≡ false) log

abbrev pub RepresentsBy : Kind → Object → ℕ → List LogEntry → ℕ → List ℕ → List Entry → Type 0
RepresentsBy Undo = RepresentsUndo
RepresentsBy Intentions = RepresentsIntentions
RepresentsBy Escrow = RepresentsEscrow

-- an object of this meaning represents the history at x
abbrev pub Represents : Meaning → ℕ → List Event → Type 0
Represents m x H = RepresentsBy m.checked.kind (object m) m.base m.log x (commits H) (surviving_at x H)

-- ---- what an event does to it

-- how many of the last n operations of t are at x
abbrev pub struck_at : ℕ → Summary → ℕ → ℕ → ℕ
struck_at x s t n = length (at_object x (drop (length (of t s.survives) - n) (of t s.survives)))

-- what the event does to the meaning of the object at x
abbrev pub Changes : ℕ → Summary → EventKind → Meaning → Meaning → Type 0
Changes x s (Op k t y) old new = cond (y == x) (new ≡ applied old t k) (new ≡ old)
Changes x s (Commit t) old new = IsCommit old t new
Changes x s (Abort t) old new = IsAbort old t new
Changes x s (Rollback t n) old new = IsStrike old t (struck_at x s t n) new
Changes x s _ old new = new ≡ old

-- ---- what the kept state owes

-- no open transaction has an operation at x
abbrev pub IsIdle : ℕ → List Event → Type 0
IsIdle x H = AllByRecursion (λ e. is_open (summary H) e.by ≡ false) (surviving_at x H)

-- update in place: where no open transaction has an operation at x, whatever the kept state allows, the serial state allows, and
-- the reverse where the yes is strong. Deferred update: the two are equieffective, also while transactions are open. Escrow: they are the same
abbrev pub KeptAgreesBy : Kind → Object → Option ℕ → ℕ → List Event → Type 0
KeptAgreesBy Undo o kept x H =
    IsIdle x H → Looks o.table kept (serial_state o x H) × (IsCoveredStrongly o → AreEqui o.table kept (serial_state o x H))
KeptAgreesBy Intentions o kept x H = AreEqui o.table kept (serial_state o x H)
KeptAgreesBy Escrow o kept x H = kept ≡ serial_state o x H

abbrev pub KeptAgrees : Meaning → ℕ → List Event → Type 0
KeptAgrees m x H = KeptAgreesBy m.checked.kind (object m) (state_of m) x H
