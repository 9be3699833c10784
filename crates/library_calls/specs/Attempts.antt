-- A whole transaction in one call, in words.
use Rattle.std.specs.Prelude.{◌≡◌, ℕ, ◌<◌, ◌≤◌, List, [], ◌∷◌, ◌++◌, length, drop, Some, zip}
use Rattle.line_text.specs.Text.{words_of}
use Rattle.serial_order.specs.History.{begins}
use Rattle.serial_order.specs.declared.command.Command.TheVariants.{Commit}
use Rattle.serial_order.specs.declared.refusal.Refusal.{Refusal}
use Rattle.store_laws.specs.Stored.{Stored}
use Rattle.attempts.specs.Answers.{IsDoneAttempt, IsEndedAttempt, IsNotBegunFor}
use Rattle.attempts.specs.Commands.{CallAt, begin_and_calls, attempt_commands, is_memory_refused_at, commands_replayed}
use Rattle.attempts.specs.Made.{never}
use Rattle.attempts.specs.declared.outcome.Attempt.{Attempt}
use Rattle.attempts.specs.declared.outcome.Attempt.TheVariants as attempt
use Rattle.attempts.specs.declared.outcome.Attempt.TheVariants.{Ended, NotBegun}
use Rattle.attempts.specs.declared.outcome.Ending.{Ending}
use Rattle.attempts.specs.declared.outcome.Ending.TheVariants as ending
use Rattle.library_calls.specs.Codes.{number, code_of}
use Rattle.library_calls.specs.declared.code.Code.{Code}
use Rattle.library_calls.specs.declared.code.Code.TheVariants.{Done, NoMemory, BadParameter, NoRoom}
use Rattle.library_calls.specs.declared.words.ColockOutcome.{ColockOutcome}

-- how the call at a place ended it
abbrev pub ending_words : ℕ → Ending → ColockOutcome
ending_words at (ending.Busy u) = record { kind = 1; at = at; number = u }
ending_words at ending.None = record { kind = 2; at = at; number = 0 }
ending_words at (ending.Refused r) = record { kind = 3; at = at; number = number (code_of (Some r)) }

-- it committed
abbrev pub done_words : ColockOutcome
done_words = record { kind = 0; at = 0; number = 0 }

-- what came of an attempt that began
abbrev pub attempt_words : Attempt → ColockOutcome
attempt_words (Ended at how) = ending_words at how
attempt_words other = done_words

-- its code: one that isn't begun is refused
abbrev pub attempt_code : Attempt → Code
attempt_code (NotBegun r) = code_of (Some r)
attempt_code other = Done

-- the room with the operations of its calls
abbrev pub filled_room : Attempt → List ℕ → List ℕ
filled_room (attempt.Done ks) room = ks.items ++ drop (length ks.items) room
filled_room other room = room

-- and with that of one call
abbrev pub one_filled : ℕ → List ℕ → List ℕ
one_filled k room = k ∷ drop 1 room

-- the room has a place for each of its operations
abbrev pub FitsRoom : Attempt → List ℕ → Type 0
FitsRoom (attempt.Done ks) room = length ks.items ≤ length room
FitsRoom other room = Unit {0}

-- an attempt of these calls: it committed, and the first places of the room have the operations of its calls; or a call ended it; or it isn't begun. The
-- history is the replay of its commands
pub data IsAttemptOf (s : Stored) (w : ℕ) (calls : List CallAt) (room : List ℕ) (n : ℕ) (filled : List ℕ) (outcome : ColockOutcome) (later : Stored) : Type 0 where
  done : (ks : List ℕ) → n ≡ number Done → IsDoneAttempt s w calls ks later
      → later ≡ commands_replayed s never w (begin_and_calls (begins s.history) calls ++ Commit (begins s.history) ∷ [])
      → outcome ≡ done_words → filled ≡ ks ++ drop (length ks) room → IsAttemptOf s w calls room n filled outcome later
  ended : (at : ℕ) (how : Ending) → n ≡ number Done → IsEndedAttempt s w calls at how later
      → later ≡ commands_replayed s (is_memory_refused_at (Ended at how)) w (attempt_commands (begins s.history) calls (Ended at how))
      → outcome ≡ ending_words at how → filled ≡ room → IsAttemptOf s w calls room n filled outcome later
  not_begun : (r : Refusal) → n ≡ number (code_of (Some r)) → IsNotBegunFor s (length calls) r → later ≡ s → filled ≡ room → IsAttemptOf s w calls room n filled outcome later

-- what comes of calls by the numbers of their objects and their names in one text; or there are more names or fewer than objects, or fewer
-- places for operations, or memory was refused
pub data IsAttempted (s : Stored) (w : ℕ) (xs names room : List ℕ) (n : ℕ) (filled : List ℕ) (outcome : ColockOutcome) (later : Stored) : Type 0 where
  made : length (words_of names) ≡ length xs → IsAttemptOf s w (zip xs (words_of names)) room n filled outcome later → IsAttempted s w xs names room n filled outcome later
  bad_names : n ≡ number BadParameter → (length (words_of names) ≡ length xs → ⊥) → later ≡ s → IsAttempted s w xs names room n filled outcome later
  no_places : n ≡ number NoRoom → length room < length xs → later ≡ s → IsAttempted s w xs names room n filled outcome later
  memory_refused : n ≡ number NoMemory → later ≡ s → IsAttempted s w xs names room n filled outcome later
