-- What a call at an object answers.
use Rattle.std.specs.Prelude.{◌≡◌, ℕ, List, [], ◌∷◌, ◌++◌, Bool, true, false, not, if◌then◌else◌, ◌⊎◌, Option, Some, None, is_some, Result, Ok, Err, slice_get}
use Rattle.type_table.specs.Table.{call_of, first_op}
use Rattle.object_trait.specs.Object.{Object}
use Rattle.object_trait.specs.declared.event.EventKind.{EventKind}
use Rattle.serial_order.specs.History.{summary, is_open}
use Rattle.serial_order.specs.Replay.{is_history_full, call_at, call_event, event_of}
use Rattle.serial_order.specs.declared.command.Command.TheVariants.{Call}
use Rattle.serial_order.specs.declared.refusal.Refusal.{Refusal}
use Rattle.serial_order.specs.declared.refusal.Refusal.TheVariants.{NotOpen, NoObject, NoCall, HistoryFull, NoMemory}
use Rattle.object_calls.specs.Calls.{IsCall}
use Rattle.object_calls.specs.declared.answer.Answer.{Answer}
use Rattle.object_calls.specs.declared.call.Call as calls
use Rattle.store_laws.specs.Stored.{Stored, objects, refusal_of}
use Rattle.store_laws.specs.Words.{as_event}

-- with one event more
abbrev pub noted : Stored → ℕ → EventKind → Stored
noted s w happened = record s { history = s.history ++ (record { worker = w; kind = happened }) ∷ [] }

-- an object is there, and has the call
abbrev pub HasCall : Option Object → calls.Call → Type 0
HasCall at call = (o : Object) × (at ≡ Some o) × IsCall o.table call

-- the event that was appended says the answer of t's call c at x
abbrev pub NotesAnswer : Stored → ℕ → ℕ → ℕ → ℕ → Result Answer Refusal → Stored → Type 0
NotesAnswer old w t x c (Ok a) new = new ≡ noted old w (as_event t x c a)
NotesAnswer old w t x c (Err r) new = Unit {0}

-- what comes of t's call c at x: the event that the history defines, or nothing where there is no room
abbrev pub AnswersCall : Stored → ℕ → ℕ → ℕ → ℕ → Result Answer Refusal → Stored → Type 0
AnswersCall old w t x c (Ok a) new =
    (is_history_full old.limits old.history 1 ≡ false) × (call_event (slice_get (objects old) x) (summary old.history) x t (Some c) ≡ Some (as_event t x c a))
    × (new ≡ noted old w (as_event t x c a))
AnswersCall old w t x c (Err r) new =
    (new ≡ old)
    × (((is_history_full old.limits old.history 1 ≡ true) × (r ≡ HistoryFull)) ⊎ ((is_history_full old.limits old.history 1 ≡ false) × (r ≡ NoMemory)))

-- and so where its answer, which is given, is a
abbrev pub GivesAnswer : Stored → ℕ → ℕ → ℕ → ℕ → Answer → Result (Unit {0}) Refusal → Stored → Type 0
GivesAnswer old w t x c a (Ok given) new = AnswersCall old w t x c (Ok a) new
GivesAnswer old w t x c a (Err r) new = AnswersCall old w t x c (Err r) new

-- what comes of t's call c at x where it is made only if it has this answer
abbrev pub ComesIf : Stored → ℕ → ℕ → ℕ → ℕ → Answer → Result Bool Refusal → Stored → Type 0
ComesIf old w t x c a (Ok true) new = AnswersCall old w t x c (Ok a) new
ComesIf old w t x c a (Ok false) new =
    (call_event (slice_get (objects old) x) (summary old.history) x t (Some c) ≡ Some (as_event t x c a) → ⊥) × (new ≡ old)
ComesIf old w t x c a (Err r) new = AnswersCall old w t x c (Err r) new

-- and so of a call that is named, whose number is c: its event is made where it has this answer, else nothing changes
abbrev pub CallsIf : Stored → ℕ → ℕ → ℕ → List ℕ → ℕ → Answer → Result Bool Refusal → Stored → Type 0
CallsIf old w t x name c a (Ok true) new =
    (refusal_of old (Call t x name) ≡ None) × (event_of (objects old) (summary old.history) (Call t x name) ≡ Some (as_event t x c a))
    × (new ≡ noted old w (as_event t x c a))
CallsIf old w t x name c a (Ok false) new =
    (event_of (objects old) (summary old.history) (Call t x name) ≡ Some (as_event t x c a) → ⊥) × (new ≡ old)
CallsIf old w t x name c a (Err r) new =
    (new ≡ old) × ((refusal_of old (Call t x name) ≡ Some r) ⊎ ((refusal_of old (Call t x name) ≡ None) × (r ≡ NoMemory)))

-- what t's call c at x would come to now, memory aside
abbrev pub WouldCome : Stored → ℕ → ℕ → ℕ → Result Answer Refusal → Type 0
WouldCome s t x c (Ok a) =
    (is_history_full s.limits s.history 1 ≡ false) × (call_event (slice_get (objects s) x) (summary s.history) x t (Some c) ≡ Some (as_event t x c a))
WouldCome s t x c (Err r) = (is_history_full s.limits s.history 1 ≡ true) × (r ≡ HistoryFull)

-- and so of a call that is named: its refusal, or the answer whose event the history defines
abbrev pub Would : Stored → ℕ → ℕ → List ℕ → Result Answer Refusal → Type 0
Would s t x name (Ok a) =
    (refusal_of s (Call t x name) ≡ None)
    × ((c : ℕ) → call_at (slice_get (objects s) x) name ≡ Some c → event_of (objects s) (summary s.history) (Call t x name) ≡ Some (as_event t x c a))
Would s t x name (Err r) = refusal_of s (Call t x name) ≡ Some r

-- why a call is refused whose number is that of no call at x
abbrev pub unnumbered : Stored → ℕ → ℕ → Refusal
unnumbered s t x = if not (is_open (summary s.history) t) then NotOpen else (if not (is_some (slice_get (objects s) x)) then NoObject else NoCall)

-- the number of the call of operation k, where the object is there and has it
abbrev pub op_call_at : Option Object → ℕ → Option ℕ
op_call_at None k = None
op_call_at (Some o) k = first_op o.table (call_of o.table k)
