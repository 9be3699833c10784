-- What comes of the calls of a store, in the words of the store's own contracts.
use Rattle.std.specs.Prelude.{◌≡◌, ℕ, ◌<◌, ◌≤◌, List, length, Some, None, slice_get}
use Rattle.serial_order.specs.Replay.{call_at}
use Rattle.serial_order.specs.declared.command.Command.{Command}
use Rattle.object_calls.specs.declared.answer.Answer.{Answer}
use Rattle.store_laws.specs.Stored.{Stored, objects, refusal_of, stored_after}
use Rattle.store_laws.specs.Words.{as_event}
use Rattle.store.specs.Calls.{noted, unnumbered}
use Rattle.store.specs.KeptState.{IsKeptState}
use Rattle.library_calls.specs.Codes.{number, code_of}
use Rattle.library_calls.specs.Words.{answer_words}
use Rattle.library_calls.specs.declared.code.Code.TheVariants.{Done, NoMemory, NoObject, NoCall}
use Rattle.library_calls.specs.declared.words.ColockAnswer.{ColockAnswer}

-- what comes of a worker's command, by its code: its refusal, which changes nothing, or the event that it makes; or memory was refused,
-- and nothing has changed
pub data IsCommandDone (s : Stored) (w : ℕ) (command : Command) (n : ℕ) (new : Stored) : Type 0 where
  told : n ≡ number (code_of (refusal_of s command)) → new ≡ stored_after s w command → IsCommandDone s w command n new
  memory_refused : refusal_of s command ≡ None → n ≡ number NoMemory → new ≡ s → IsCommandDone s w command n new

-- the event that was appended says the answer of t's call c at x
abbrev pub WordsAnswer : Stored → ℕ → ℕ → ℕ → ℕ → ℕ → ColockAnswer → Stored → Type 0
WordsAnswer s w t x c n words new = n ≡ number Done → (a : Answer) × (words ≡ answer_words a) × (new ≡ noted s w (as_event t x c a))

-- the number is no call's at x
abbrev pub NumbersNone : Stored → ℕ → ℕ → Type 0
NumbersNone s x c = (name : List ℕ) → call_at (slice_get (objects s) x) name ≡ Some c → ⊥

-- what comes of a call by such a number
abbrev pub IsUnnumbered : Stored → ℕ → ℕ → ℕ → ℕ → Stored → Type 0
IsUnnumbered s t x c n new =
    NumbersNone s x c → (n ≡ number (code_of (Some (unnumbered s t x)))) × (new ≡ s)

-- the state that is kept of the object at x, where there is one
pub data IsKeptStateOf (s : Stored) (x n state : ℕ) : Type 0 where
  kept : n ≡ number Done → IsKeptState s x state → IsKeptStateOf s x n state
  no_object : n ≡ number NoObject → length (objects s) ≤ x → IsKeptStateOf s x n state

-- the number of the call with this name at the object at x
pub data IsCallNumber (s : Stored) (x : ℕ) (name : List ℕ) (n c : ℕ) : Type 0 where
  found : n ≡ number Done → call_at (slice_get (objects s) x) name ≡ Some c → IsCallNumber s x name n c
  no_object : n ≡ number NoObject → length (objects s) ≤ x → IsCallNumber s x name n c
  no_call : n ≡ number NoCall → x < length (objects s) → call_at (slice_get (objects s) x) name ≡ None → IsCallNumber s x name n c

-- what comes of a worker's commit or abort, which takes no memory: its refusal, which changes nothing, or the event that it makes
abbrev pub IsEnded : Stored → ℕ → Command → ℕ → Stored → Type 0
IsEnded s w command n new = (n ≡ number (code_of (refusal_of s command))) × (new ≡ stored_after s w command)
