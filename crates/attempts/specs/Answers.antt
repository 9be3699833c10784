-- What the answer of an attempt says.
use Rattle.std.specs.Prelude.{◌≡◌, ℕ, ◌+◌, List, [], ◌∷◌, ◌++◌, length, take, not, nat_le, if◌then◌else◌, ◌⊎◌, Option, Some, None, is_some, slice_get}
use Rattle.type_table.specs.Operation.{place_of}
use Rattle.object_trait.specs.Object.{Object}
use Rattle.object_trait.specs.declared.event.EventKind.{EventKind}
use Rattle.object_trait.specs.declared.event.EventKind.TheVariants as kind
use Rattle.object_trait.specs.declared.event.EventKind.TheVariants.{Begin, Op, Commit, Abort}
use Rattle.serial_order.specs.History.{begins, summary}
use Rattle.serial_order.specs.Replay.{open_count, is_history_full, call_at}
use Rattle.serial_order.specs.declared.refusal.Refusal.{Refusal}
use Rattle.serial_order.specs.declared.refusal.Refusal.TheVariants.{NoObject, NoCall, TooManyOpen, HistoryFull, NoMemory}
use Rattle.store_laws.specs.Stored.{Stored, objects}
use Rattle.attempts.specs.declared.outcome.Attempt.{Attempt}
use Rattle.attempts.specs.declared.outcome.Attempt.TheVariants.{Done, Ended, NotBegun}
use Rattle.attempts.specs.declared.outcome.Ending.{Ending}
use Rattle.attempts.specs.declared.outcome.Ending.TheVariants as ending
use Rattle.attempts.specs.Commands.{CallAt, with_kinds}

-- ---- no transaction began

-- why an attempt of so many calls isn't begun, memory aside: the first reason that holds. There is to be room for its begin, its calls and
-- its end
abbrev pub attempt_refusal : Stored → ℕ → Option Refusal
attempt_refusal s calls =
    if nat_le s.limits.«open» (open_count (summary s.history)) then Some TooManyOpen
    else (if is_history_full s.limits s.history (calls + 2) then Some HistoryFull else None)

-- there is room
abbrev pub HasAttemptRoom : Stored → ℕ → Type 0
HasAttemptRoom s calls = attempt_refusal s calls ≡ None

-- it isn't begun for this reason
abbrev pub IsNotBegunFor : Stored → ℕ → Refusal → Type 0
IsNotBegunFor s calls r = (attempt_refusal s calls ≡ Some r) ⊎ (HasAttemptRoom s calls × (r ≡ NoMemory))

-- ---- calls

-- the events of calls with these operations
abbrev pub operation_events : ℕ → List CallAt → List ℕ → List EventKind
operation_events t [] ks = []
operation_events t (call ∷ calls) [] = []
operation_events t (call ∷ calls) (k ∷ ks) = Op k t (call.0) ∷ operation_events t calls ks

-- the number of a call, where it is there
abbrev pub asked_number : List Object → CallAt → Option ℕ
asked_number objects call = call_at (slice_get objects (call.0)) (call.1)

-- why no transaction may make the call: its object isn't there, or the call isn't
abbrev pub missing_call : List Object → CallAt → Option Refusal
missing_call objects call =
    if not (is_some (slice_get objects (call.0))) then Some NoObject
    else (if not (is_some (asked_number objects call)) then Some NoCall else None)

-- t's call ended an attempt so, with this event or none
abbrev pub EndsSo : List Object → ℕ → CallAt → Ending → List EventKind → Type 0
EndsSo objects t call (ending.Busy u) es = (c : ℕ) × (asked_number objects call ≡ Some c) × (es ≡ kind.Busy (place_of c) t (call.0) u ∷ [])
EndsSo objects t call ending.None es = (c : ℕ) × (asked_number objects call ≡ Some c) × (es ≡ kind.None t (call.0) (place_of c) ∷ [])
EndsSo objects t call (ending.Refused r) es = (es ≡ []) × ((missing_call objects call ≡ Some r) ⊎ ((missing_call objects call ≡ None) × (r ≡ NoMemory)))

-- ---- an attempt

-- its calls have these operations, and it committed
pub record IsDoneAttempt (old : Stored) (w : ℕ) (calls : List CallAt) (ks : List ℕ) (new : Stored) : Type 0 where
  pub room : HasAttemptRoom old (length calls)
  pub as_many : length ks ≡ length calls
  pub events : new ≡ with_kinds old w (Begin (begins old.history) ∷ (operation_events (begins old.history) calls ks ++ Commit (begins old.history) ∷ []))

-- the call at this place ended it: those before it have an operation each, and it aborted
pub record IsEndedAttempt (old : Stored) (w : ℕ) (calls : List CallAt) (at : ℕ) (how : Ending) (new : Stored) : Type 0 where
  pub room : HasAttemptRoom old (length calls)
  pub call : CallAt
  pub there : slice_get calls at ≡ Some call
  pub operations : List ℕ
  pub as_many : length operations ≡ at
  pub answer : List EventKind
  pub ends : EndsSo (objects old) (begins old.history) call how answer
  pub events : new ≡ with_kinds old w
      (Begin (begins old.history) ∷ ((operation_events (begins old.history) (take at calls) operations ++ answer) ++ Abort (begins old.history) ∷ []))

-- what an attempt of worker w with this answer did
abbrev pub AttemptAnswers : Stored → ℕ → List CallAt → Attempt → Stored → Type 0
AttemptAnswers old w calls (Done ks) new = IsDoneAttempt old w calls ks.items new
AttemptAnswers old w calls (Ended at how) new = IsEndedAttempt old w calls at how new
AttemptAnswers old w calls (NotBegun r) new = IsNotBegunFor old (length calls) r × (new ≡ old)
