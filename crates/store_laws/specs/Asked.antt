-- What comes of commands that a store is asked one after another. Statements of their laws.
use Rattle.std.specs.Prelude.{◌≡◌, ℕ, zero, suc, List, [], ◌∷◌, ◌++◌, map, take, Bool, true, false, Option, Some, None, Result, Ok, Err, slice_get}
use Rattle.serial_order.specs.History.{summary}
use Rattle.serial_order.specs.Replay.{call_at, event_of, replay}
use Rattle.serial_order.specs.declared.command.Command.{Command}
use Rattle.serial_order.specs.declared.command.Command.TheVariants.{Call}
use Rattle.serial_order.specs.declared.refusal.Refusal.{Refusal}
use Rattle.serial_order.specs.declared.refusal.Refusal.TheVariants.{NoMemory}
use Rattle.object_calls.specs.declared.answer.Answer.{Answer}
use Rattle.store_laws.specs.Stored.{Stored, objects, refusal_in, MayStep}
use Rattle.store_laws.specs.Words.{as_event}

-- ---- what was asked

-- a worker's command, why it was refused, None where it wasn't, and the store that it left
pub record AskedCommand : Type 0 where
  pub worker : ℕ
  pub command : Command
  pub reason : Option Refusal
  pub left : Stored

-- a result that says no more than why the call was refused
abbrev pub result_of : Option Refusal → Result (Unit {0}) Refusal
result_of None = Ok tt
result_of (Some r) = Err r

-- it was asked at this store: what the clause of its call says
abbrev pub IsAskedAt : Stored → AskedCommand → Type 0
IsAskedAt old a = MayStep old a.worker a.command (result_of a.reason) a.left

-- commands were asked one after another, each at the store that the one before left
abbrev pub AreAsked : Stored → List AskedCommand → Type 0
AreAsked old [] = Unit {0}
AreAsked old (a ∷ asked) = IsAskedAt old a × AreAsked a.left asked

-- the store that the last one left
abbrev pub store_left_by : Stored → List AskedCommand → Stored
store_left_by old [] = old
store_left_by old (a ∷ asked) = store_left_by a.left asked

-- ---- their replay

abbrev pub commands_of : List AskedCommand → List (ℕ × Command)
commands_of asked = map (λ (a : AskedCommand). (a.worker, a.command)) asked

abbrev pub is_memory_refused : Option Refusal → Bool
is_memory_refused (Some NoMemory) = true
is_memory_refused other = false

-- the places of the commands at which memory was refused
abbrev pub memory_refused_in : List AskedCommand → ℕ → Bool
memory_refused_in [] place = false
memory_refused_in (a ∷ asked) zero = is_memory_refused a.reason
memory_refused_in (a ∷ asked) (suc place) = memory_refused_in asked place

-- a store with the history that is the replay of the first n commands
abbrev pub replayed : Stored → List AskedCommand → ℕ → Stored
replayed old asked n = record old { history = replay (objects old) old.limits (memory_refused_in asked) old.history (take n (commands_of asked)) }

-- the store after all commands has the history of their replay, and each command was answered at the replay of those before it
pub record LeavesReplay (old : Stored) (asked : List AskedCommand) : Type 0 where
  pub all : store_left_by old asked ≡ record old { history = replay (objects old) old.limits (memory_refused_in asked) old.history (commands_of asked) }
  pub each : (i : ℕ) (a : AskedCommand) → slice_get asked i ≡ Some a → IsAskedAt (replayed old asked i) a

-- ---- statements of laws

-- whatever commands a store was asked, it has the history of their replay, and answered each as that history defines it
abbrev pub AskedIsReplayed : Type 0
AskedIsReplayed = (old : Stored) (asked : List AskedCommand) → AreAsked old asked → LeavesReplay old asked

-- the clause of a call says that its command was asked, whatever the call answers
abbrev pub StepIsAsked : Type 0 → Type 0
StepIsAsked T =
    (old new : Stored) (w : ℕ) (command : Command) (result : Result T Refusal) → MayStep old w command result new
    → IsAskedAt old (record { worker = w; command = command; reason = refusal_in result; left = new })

-- an answer that the last event says is the one that the history before it defines
abbrev pub AnswerIsDefined : Type 0
AnswerIsDefined =
    (old new : Stored) (w t x c : ℕ) (name : List ℕ) (answer : Answer) → MayStep old w (Call t x name) (Ok answer) new
    → call_at (slice_get (objects old) x) name ≡ Some c
    → new ≡ record old { history = old.history ++ (record { worker = w; kind = as_event t x c answer }) ∷ [] }
    → event_of (objects old) (summary old.history) (Call t x name) ≡ Some (as_event t x c answer)
