-- The events of the store that a handle holds, in a room of the caller.
use Rattle.std.specs.Prelude.{◌≡◌, ℕ, ◌+◌, List, length, min, Option, Some}
use Rattle.store_laws.specs.Stored.{Stored}
use Rattle.library_calls.specs.Codes.{number}
use Rattle.library_calls.specs.Histories.{IsCopied, IsFollowed}
use Rattle.library_calls.specs.Holding.{store_at}
use Rattle.library_calls.specs.declared.code.Code.TheVariants.{Done}
use Rattle.library_calls.specs.declared.event_words.ColockEvent.{ColockEvent}
use Rattle.library_calls.specs.declared.held.Held.{Held}
use Rattle.colock_c.specs.Calls.{Becomes}

abbrev pub Copies : Option Held → ℕ → List ColockEvent → ℕ → List ColockEvent → ℕ → Type 0
Copies held from old n new count = (s : Stored) → store_at held ≡ Some s → IsCopied s from old n new count

abbrev pub CountsEvents : Option Held → ℕ → ℕ → ℕ → Type 0
CountsEvents held n count forgotten =
    (s : Stored) → store_at held ≡ Some s → (n ≡ number Done) × (count ≡ length s.history) × (forgotten ≡ s.forgotten)

-- the first of those that are in memory are forgotten, or all of them
abbrev pub Forgets : Option Held → ℕ → ℕ → Option Held → Type 0
Forgets held m n new = Becomes (λ s later. (n ≡ number Done) × (later ≡ record s { forgotten = min (s.forgotten + m) (length s.history) })) held n new

-- such events are made again
abbrev pub FollowsWords : Option Held → List ColockEvent → ℕ → ℕ → Option Held → Type 0
FollowsWords held ws n made new = Becomes (λ s later. IsFollowed s ws n made later) held n new
