-- A store follows events that it made before.
use Rattle.std.specs.Prelude.{◌≡◌, ℕ, List, [], ◌∷◌, ◌++◌, Bool, true, false, Option, Some, None, slice_get, Result, Ok, Err}
use Rattle.object_trait.specs.declared.event.Event.{Event}
use Rattle.serial_order.specs.History.{summary}
use Rattle.object_trait.specs.declared.event.EventKind.{EventKind}
use Rattle.object_trait.specs.declared.event.EventKind.TheVariants as kind
use Rattle.serial_order.specs.Replay.{call_at, call_event, event_of}
use Rattle.serial_order.specs.declared.command.Command.TheVariants.{Call}
use Rattle.serial_order.specs.declared.command.Command.{Command}
use Rattle.serial_order.specs.declared.refusal.Refusal.{Refusal}
use Rattle.serial_order.specs.declared.refusal.Refusal.TheVariants as refusal
use Rattle.object_calls.specs.declared.answer.Answer.{Answer}
use Rattle.store_laws.specs.Stored.{Stored, objects, refusal_of}
use Rattle.store_laws.specs.Words.{as_event}
use Rattle.store.specs.declared.event_replay.Stray.{Stray}
use Rattle.store.specs.declared.event_replay.Stray.TheVariants.{NotMade, NoMemory}

-- some command that isn't refused makes the event
pub record IsMade (s : Stored) (e : Event) : Type 0 where
  pub command : Command
  pub accepted : refusal_of s command ≡ None
  pub makes : event_of (objects s) (summary s.history) command ≡ Some e.kind

-- this command isn't refused, and makes the event
abbrev pub MakesEvent : Stored → Command → EventKind → Type 0
MakesEvent s command happened = (refusal_of s command ≡ None) × (event_of (objects s) (summary s.history) command ≡ Some happened)

-- where some command makes the event, t's call c at x does
abbrev pub IsByCall : Stored → Event → ℕ → ℕ → ℕ → Type 0
IsByCall s e t x c = IsMade s e → (name : List ℕ) × (call_at (slice_get (objects s) x) name ≡ Some c) × MakesEvent s (Call t x name) e.kind

-- the event of an answer without a reply: `None`, or `Busy` with who holds what it waits for. It says the place of its call's first operation
abbrev pub unreplied : ℕ → ℕ → ℕ → Option ℕ → EventKind
unreplied t x place None = kind.None t x place
unreplied t x place (Some u) = kind.Busy place t x u

-- t's call c at x, which is there, has the answer
abbrev pub HasAnswer : Stored → ℕ → ℕ → ℕ → Answer → Type 0
HasAnswer s t x c a =
    (name : List ℕ) × (call_at (slice_get (objects s) x) name ≡ Some c)
    × (call_event (slice_get (objects s) x) (summary s.history) x t (Some c) ≡ Some (as_event t x c a))

-- with the event
abbrev pub with_event : Stored → Event → Stored
with_event s e = record s { history = s.history ++ e ∷ [] }

abbrev pub stray_of : Refusal → Stray
stray_of refusal.NoMemory = NoMemory
stray_of _ = NotMade

abbrev pub told_stray : {T : Type 0} → Result T Refusal → Result (Unit {0}) Stray
told_stray (Ok x) = Ok tt
told_stray (Err r) = Err (stray_of r)

abbrev pub made_or_stray : Result Bool Refusal → Result (Unit {0}) Stray
made_or_stray (Ok true) = Ok tt
made_or_stray (Ok false) = Err NotMade
made_or_stray (Err r) = Err (stray_of r)

-- what becomes of an event that is to be made again
abbrev pub Follows : Stored → Event → Result (Unit {0}) Stray → Stored → Type 0
Follows old e (Ok x) new = IsMade old e × (new ≡ with_event old e)
Follows old e (Err NotMade) new = (IsMade old e → ⊥) × (new ≡ old)
Follows old e (Err NoMemory) new = new ≡ old
