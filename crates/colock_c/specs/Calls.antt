-- What the calls of a store do to what a handle holds, in the words of the store's own contracts.
use Rattle.std.specs.Prelude.{◌≡◌, ℕ, List, ◌++◌, Option, Some, None, slice_get}
use Rattle.serial_order.specs.History.{begins, summary}
use Rattle.serial_order.specs.Replay.{call_at, open_count}
use Rattle.serial_order.specs.declared.command.Command.{Command}
use Rattle.serial_order.specs.declared.command.Command.TheVariants.{Call}
use Rattle.object_calls.specs.declared.answer.Answer.{Answer}
use Rattle.store_laws.specs.Stored.{Stored, objects}
use Rattle.store_laws.specs.Words.{as_event}
use Rattle.store.specs.Calls.{noted}
use Rattle.store.specs.Ends.{closing}
use Rattle.library_calls.specs.Attempts.{IsAttempted}
use Rattle.library_calls.specs.Calls.{IsCallNumber, IsCommandDone, IsEnded, IsKeptStateOf, IsUnnumbered}
use Rattle.library_calls.specs.Codes.{number}
use Rattle.library_calls.specs.Foreseen.{IsForeseen, IsForeseenAt}
use Rattle.library_calls.specs.Holding.{store_at}
use Rattle.library_calls.specs.NumberedAttempts.{IsAttemptedByNumbers}
use Rattle.library_calls.specs.Words.{answer_words}
use Rattle.library_calls.specs.declared.code.Code.TheVariants.{Done, NotHeld}
use Rattle.library_calls.specs.declared.held.Held.{Held}
use Rattle.library_calls.specs.declared.held.Held.TheVariants.{OfType, OfObjects, OfStore}
use Rattle.library_calls.specs.declared.words.ColockAnswer.{ColockAnswer}
use Rattle.library_calls.specs.declared.words.ColockOutcome.{ColockOutcome}

-- the store that a handle holds becomes such a store. Where the handle holds no store it goes on holding what it held
abbrev pub Becomes : (Stored → Stored → Type 0) → Option Held → ℕ → Option Held → Type 0
Becomes IsSuch None n new = (n ≡ number NotHeld) × (new ≡ None)
Becomes IsSuch (Some (OfType a)) n new = (n ≡ number NotHeld) × (new ≡ Some (OfType a))
Becomes IsSuch (Some (OfObjects os)) n new = (n ≡ number NotHeld) × (new ≡ Some (OfObjects os))
Becomes IsSuch (Some (OfStore s)) n new = (later : Stored) × (new ≡ Some (OfStore later)) × IsSuch s later

-- what comes of a worker's command
abbrev pub DoesCommand : Option Held → ℕ → Command → ℕ → Option Held → Type 0
DoesCommand held w command n new = Becomes (λ s later. IsCommandDone s w command n later) held n new

abbrev pub Ends : Option Held → ℕ → Command → ℕ → Option Held → Type 0
Ends held w command n new = Becomes (λ s later. IsEnded s w command n later) held n new

-- the number of a transaction that begins
abbrev pub IsNumbered : Option Held → ℕ → ℕ → Type 0
IsNumbered held n t = (s : Stored) → store_at held ≡ Some s → n ≡ number Done → t ≡ begins s.history

-- the answer of t's call c at x
abbrev pub TellsAnswer : Option Held → ℕ → ℕ → ℕ → ℕ → ℕ → ColockAnswer → Option Held → Type 0
TellsAnswer held w t x c n words new =
    (s : Stored) → store_at held ≡ Some s → n ≡ number Done
    → (a : Answer) × (words ≡ answer_words a) × (store_at new ≡ Some (noted s w (as_event t x c a)))

-- and so of the call with this name there
abbrev pub IsToldOf : Option Held → ℕ → ℕ → ℕ → List ℕ → ℕ → ColockAnswer → Option Held → Type 0
IsToldOf held w t x name n words new =
    (s : Stored) (c : ℕ) → store_at held ≡ Some s → call_at (slice_get (objects s) x) name ≡ Some c → n ≡ number Done
    → (a : Answer) × (words ≡ answer_words a) × (store_at new ≡ Some (noted s w (as_event t x c a)))

-- what comes of a call by its number: that of a call with this number, or of none
abbrev pub DoesNumbered : Option Held → ℕ → ℕ → ℕ → ℕ → ℕ → Option Held → Type 0
DoesNumbered held w t x c n new =
    Becomes (λ s later. ((name : List ℕ) → call_at (slice_get (objects s) x) name ≡ Some c → IsCommandDone s w (Call t x name) n later) × IsUnnumbered s t x c n later) held n new

-- what a call would be answered
abbrev pub Foresees : Option Held → ℕ → ℕ → List ℕ → ℕ → ColockAnswer → Type 0
Foresees held t x name n words = (s : Stored) → store_at held ≡ Some s → IsForeseen s t x name n words

abbrev pub ForeseesAt : Option Held → ℕ → ℕ → ℕ → ℕ → ColockAnswer → Type 0
ForeseesAt held t x c n words = (s : Stored) → store_at held ≡ Some s → IsForeseenAt s t x c n words

-- what comes of a whole transaction in one call
abbrev pub AttemptsCalls : Option Held → ℕ → List ℕ → List ℕ → List ℕ → ℕ → List ℕ → ColockOutcome → Option Held → Type 0
AttemptsCalls held w xs names room n filled outcome new = Becomes (λ s later. IsAttempted s w xs names room n filled outcome later) held n new

abbrev pub AttemptsNumbers : Option Held → ℕ → List ℕ → List ℕ → List ℕ → ℕ → List ℕ → ColockOutcome → Option Held → Type 0
AttemptsNumbers held w xs cs room n filled outcome new = Becomes (λ s later. IsAttemptedByNumbers s w xs cs room n filled outcome later) held n new

abbrev pub KeepsState : Option Held → ℕ → ℕ → ℕ → Type 0
KeepsState held x n state = (s : Stored) → store_at held ≡ Some s → IsKeptStateOf s x n state

abbrev pub Numbers : Option Held → ℕ → List ℕ → ℕ → ℕ → Type 0
Numbers held x name n c = (s : Stored) → store_at held ≡ Some s → IsCallNumber s x name n c

-- how many transactions are open
abbrev pub CountsOpen : Option Held → ℕ → ℕ → Type 0
CountsOpen held n count = (s : Stored) → store_at held ≡ Some s → (n ≡ number Done) × (count ≡ open_count (summary s.history))

-- each open transaction is aborted, in ascending order of numbers, as the worker that began it
abbrev pub AbortsAll : Option Held → ℕ → Option Held → Type 0
AbortsAll held n new = Becomes (λ s later. (n ≡ number Done) × (later ≡ record s { history = s.history ++ closing s.history })) held n new
