-- What the calls of an object do to its meaning.
use Rattle.std.specs.Prelude.{◌≡◌, ℕ, suc, ◌+◌, ◌-◌, ◌<◌, ◌||◌, ◌⊎◌, Bool, List, [], ◌∷◌, ◌++◌, map, filter, length, true, false, not, ◌&&◌, ◌==◌, Option, Some, is_some, if◌then◌else◌}
use Rattle.std.specs.List.{list_any, find, AllByRecursion}
use Rattle.std.specs.Option.{option_map, option_or}
use Rattle.type_table.specs.Operation.{operation_at}
use Rattle.type_table.specs.Run.{IsLegal, AreEqui}
use Rattle.escrow_laws.specs.Firm.{with_op, keeps}
use Rattle.type_table.specs.declared.kind.Kind.{Kind}
use Rattle.type_table.specs.declared.kind.Kind.TheVariants.{Undo, Intentions, Escrow}
use Rattle.object_trait.specs.Object.{Object}
use Rattle.object_trait.specs.Alone.{keeps_alone}
use Rattle.object_trait.specs.Strike.{keep_first}
use Rattle.object_trait.specs.Meaning.{Meaning, object, is_open_of, open_of, own_of, run_log, state_of, view_of}
use Rattle.object_trait.specs.declared.log_entry.LogEntry.{LogEntry}

-- ---- what is read

-- operation k is legal in the state that t sees
abbrev pub IsLegalFor : Meaning → ℕ → ℕ → Type 0
IsLegalFor m t k = IsLegal m.checked.file.table (view_of m t) (k ∷ [])

-- the open transactions, each once
abbrev pub open_transactions : List LogEntry → List ℕ
open_transactions [] = []
open_transactions (e ∷ log) =
    let rest = open_transactions log in
    if e.done || list_any (λ t. t == e.by) rest then rest else e.by ∷ rest

-- as it was made
pub record IsFresh (m : Meaning) : Type 0 where
  pub base : m.base ≡ m.checked.file.table.initial
  pub log : m.log ≡ []

-- ---- a further operation

-- an entry of another open transaction
abbrev pub IsOfAnotherOpen : ℕ → LogEntry → Type 0
IsOfAnotherOpen t e = (e.done ≡ false) × ((e.by == t) ≡ false)

-- a number above t and each transaction of the log
abbrev pub above : ℕ → List LogEntry → ℕ
above t [] = suc t
above t (e ∷ log) = above t log + suc e.by

-- the entry, of another open transaction, keeps t from k
abbrev pub stops_by : Kind → Object → ℕ → List LogEntry → ℕ → ℕ → LogEntry → Bool
stops_by Undo o base log t k e = o.conflicts k e.op
stops_by Intentions o base log t k e = o.conflicts k e.op
stops_by Escrow o base log t k e = keeps o.table o.amounts base (with_op (own_of log) t k) (above t log) t e.by

abbrev pub stops : Meaning → ℕ → ℕ → LogEntry → Bool
stops m = stops_by m.checked.kind (object m) m.base m.log

-- its transaction alone keeps t from k, if it does. Where operations conflict, two by two, it does so alone
abbrev pub alone_by : Kind → Object → ℕ → List LogEntry → ℕ → ℕ → LogEntry → Bool
alone_by Undo o base log t k e = true
alone_by Intentions o base log t k e = true
alone_by Escrow o base log t k e = keeps_alone o.table o.amounts base (with_op (own_of log) t k) t e.by

abbrev pub stops_alone : Meaning → ℕ → ℕ → LogEntry → Bool
stops_alone m = alone_by m.checked.kind (object m) m.base m.log

-- the transaction of the earliest open entry that passes
abbrev pub holder_of : (LogEntry → Bool) → List LogEntry → Option ℕ
holder_of test log = option_map (λ e. e.by) (find test (filter (λ e. not e.done) log))

-- who keeps t from k: the transaction of the earliest open entry of another that stops it, where that transaction does so alone; where none does, of the earliest that stops it
abbrev pub stopper : Meaning → ℕ → ℕ → Option ℕ
stopper m t k =
    option_or (holder_of (λ e. stops_alone m t k e && (not (e.by == t) && stops m t k e)) m.log) (holder_of (λ e. not (e.by == t) && stops m t k e) m.log)

-- u keeps t from an operation with this amount at the place or at the next, which is legal for t
abbrev pub IsKeptByAmount : Meaning → ℕ → ℕ → ℕ → ℕ → Type 0
IsKeptByAmount m t place u n = (k : ℕ) × ((k ≡ operation_at place (Some n)) ⊎ (k ≡ operation_at (place + 1) (Some n))) × IsLegalFor m t k × (stopper m t k ≡ Some u)

-- what is found is such an amount, and where there is one some is found
pub record TellsKept (m : Meaning) (t place u : ℕ) (found : Option ℕ) : Type 0 where
  pub kept : (n : ℕ) → found ≡ Some n → IsKeptByAmount m t place u n
  pub all : (n : ℕ) → IsKeptByAmount m t place u n → is_some found ≡ true

-- the caller's condition: k is legal for t and conflicts with no entry of another open transaction, and the log has room
pub record MayApply (m : Meaning) (t k : ℕ) : Type 0 where
  pub operation : k < length m.checked.file.table.ops
  pub legal : IsLegalFor m t k
  pub free : AllByRecursion (λ e. IsOfAnotherOpen t e → stops m t k e ≡ false) m.log
  pub room : length m.log < 4294967295

-- the meaning with one more entry, which is open
abbrev pub applied : Meaning → ℕ → ℕ → Meaning
applied m t k = record m { log = m.log ++ (record { by = t; op = k; done = false }) ∷ [] }

-- ---- the end of a transaction, and its rollback

-- a leading stretch of done entries moved from the log into base
pub record IsSettled (o : Object) (base : ℕ) (log : List LogEntry) (new_base : ℕ) (new_log : List LogEntry) : Type 0 where
  pub moved : List LogEntry
  pub front : log ≡ moved ++ new_log
  pub done : AllByRecursion (λ e. e.done ≡ true) moved
  pub reached : run_log o base moved ≡ Some new_base

-- t's entries are done
abbrev pub marked : ℕ → LogEntry → LogEntry
marked t e = record e { done = e.done || e.by == t }

-- a commit of t. Update in place: t's entries become done, in their places
abbrev pub IsUndoCommit : Object → ℕ → List LogEntry → ℕ → ℕ → List LogEntry → Type 0
IsUndoCommit o base log t = IsSettled o base (map (marked t) log)

-- deferred update: t's entries leave the log, and base is equieffective to the state after them. Where t has none, base stays
pub record IsIntentionsCommit (o : Object) (base : ℕ) (log : List LogEntry) (t new_base : ℕ) (new_log : List LogEntry) : Type 0 where
  pub rest : new_log ≡ filter (λ e. not (is_open_of t e)) log
  pub inside : o.set new_base ≡ true
  pub reached : AreEqui o.table (Some new_base) (run_log o base (open_of t log))
  pub still : open_of t log ≡ [] → new_base ≡ base

-- escrow: t's entries leave the log, and base is the number after them
pub record IsEscrowCommit (o : Object) (base : ℕ) (log : List LogEntry) (t new_base : ℕ) (new_log : List LogEntry) : Type 0 where
  pub rest : new_log ≡ filter (λ e. not (is_open_of t e)) log
  pub reached : run_log o base (open_of t log) ≡ Some new_base

abbrev pub IsCommitBy : Kind → Object → ℕ → List LogEntry → ℕ → ℕ → List LogEntry → Type 0
IsCommitBy Undo = IsUndoCommit
IsCommitBy Intentions = IsIntentionsCommit
IsCommitBy Escrow = IsEscrowCommit

pub record IsCommit (old : Meaning) (t : ℕ) (new : Meaning) : Type 0 where
  pub checked : new.checked ≡ old.checked
  pub commit : IsCommitBy old.checked.kind (object old) old.base old.log t new.base new.log

-- only the first n open entries of t stay. Update in place
abbrev pub IsUndoStrike : Object → ℕ → List LogEntry → ℕ → ℕ → ℕ → List LogEntry → Type 0
IsUndoStrike o base log t n = IsSettled o base (keep_first (is_open_of t) n log)

-- deferred update
pub record IsIntentionsStrike (o : Object) (base : ℕ) (log : List LogEntry) (t n new_base : ℕ) (new_log : List LogEntry) : Type 0 where
  pub same_base : new_base ≡ base
  pub rest : new_log ≡ keep_first (is_open_of t) n log

abbrev pub IsStrikeBy : Kind → Object → ℕ → List LogEntry → ℕ → ℕ → ℕ → List LogEntry → Type 0
IsStrikeBy Undo = IsUndoStrike
IsStrikeBy Intentions = IsIntentionsStrike
IsStrikeBy Escrow = IsIntentionsStrike

-- what is left where only the first n open entries of t stay
pub record Keeps (old : Meaning) (t n : ℕ) (new : Meaning) : Type 0 where
  pub checked : new.checked ≡ old.checked
  pub strike : IsStrikeBy old.checked.kind (object old) old.base old.log t n new.base new.log

-- the last m open entries of t are struck
abbrev pub IsStrike : Meaning → ℕ → ℕ → Meaning → Type 0
IsStrike old t m new = Keeps old t (length (open_of t old.log) - m) new

-- all of them are
abbrev pub IsAbort : Meaning → ℕ → Meaning → Type 0
IsAbort old t new = Keeps old t 0 new

-- ---- what nobody notices

-- the state, the state that each transaction sees, and the open entries of each are as they were
pub record ShowsTheSame (old new : Meaning) : Type 0 where
  pub state : state_of new ≡ state_of old
  pub views : (t : ℕ) → view_of new t ≡ view_of old t
  pub opens : (t : ℕ) → open_of t new.log ≡ open_of t old.log
