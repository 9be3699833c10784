-- A whole transaction in one call, by the numbers of its calls, in words.
use Rattle.std.specs.Prelude.{◌≡◌, ℕ, ◌<◌, ◌≤◌, List, [], ◌∷◌, ◌++◌, length, drop, Some, Result, Ok, Err}
use Rattle.serial_order.specs.History.{begins}
use Rattle.serial_order.specs.declared.command.Command.TheVariants.{Commit}
use Rattle.serial_order.specs.declared.refusal.Refusal.{Refusal}
use Rattle.store_laws.specs.Stored.{Stored, objects}
use Rattle.attempts.specs.Answers.{IsDoneAttempt, IsEndedAttempt, IsNotBegunFor}
use Rattle.attempts.specs.Commands.{CallAt, begin_and_calls, attempt_commands, is_memory_refused_at, commands_replayed}
use Rattle.attempts.specs.Made.{never}
use Rattle.attempts.specs.Numbered.{named_calls}
use Rattle.attempts.specs.declared.outcome.Attempt.TheVariants.{Ended}
use Rattle.attempts.specs.declared.outcome.Ending.{Ending}
use Rattle.attempts.specs.declared.outcome.Stop.{Stop}
use Rattle.library_calls.specs.Attempts.{done_words, ending_words}
use Rattle.library_calls.specs.Codes.{number, code_of}
use Rattle.library_calls.specs.declared.code.Code.TheVariants.{Done, BadParameter, NoRoom}
use Rattle.library_calls.specs.declared.words.ColockOutcome.{ColockOutcome}

-- ---- calls that were made up to their end, or to a stop

abbrev pub made_words : Result (Unit {0}) Stop → ColockOutcome
made_words (Ok x) = done_words
made_words (Err stop) = ending_words stop.at stop.how

-- how many of so many have an operation
abbrev pub made_count : ℕ → Result (Unit {0}) Stop → ℕ
made_count n (Ok x) = n
made_count n (Err stop) = stop.at

-- ---- an attempt

-- it committed, and the first places of the room have the operations of its calls; or a call ended it, and the first places may have those of the
-- calls before that one; or it isn't begun. The history is the replay of its commands
pub data IsAttemptOfNumbers (s : Stored) (w : ℕ) (calls : List CallAt) (room : List ℕ) (n : ℕ) (filled : List ℕ) (outcome : ColockOutcome) (later : Stored) : Type 0 where
  done : (ks : List ℕ) → n ≡ number Done → IsDoneAttempt s w calls ks later
      → later ≡ commands_replayed s never w (begin_and_calls (begins s.history) calls ++ Commit (begins s.history) ∷ [])
      → outcome ≡ done_words → filled ≡ ks ++ drop (length ks) room → IsAttemptOfNumbers s w calls room n filled outcome later
  ended : (at : ℕ) (how : Ending) → n ≡ number Done → IsEndedAttempt s w calls at how later
      → later ≡ commands_replayed s (is_memory_refused_at (Ended at how)) w (attempt_commands (begins s.history) calls (Ended at how))
      → outcome ≡ ending_words at how → drop at filled ≡ drop at room → IsAttemptOfNumbers s w calls room n filled outcome later
  not_begun : (r : Refusal) → n ≡ number (code_of (Some r)) → IsNotBegunFor s (length calls) r → later ≡ s → filled ≡ room
      → IsAttemptOfNumbers s w calls room n filled outcome later

-- what comes of calls by the numbers of their objects and their own; or there are more of these or fewer than objects, or fewer places for operations
pub data IsAttemptedByNumbers (s : Stored) (w : ℕ) (xs cs room : List ℕ) (n : ℕ) (filled : List ℕ) (outcome : ColockOutcome) (later : Stored) : Type 0 where
  made : length cs ≡ length xs → length xs ≤ length room → IsAttemptOfNumbers s w (named_calls (objects s) xs cs) room n filled outcome later
      → IsAttemptedByNumbers s w xs cs room n filled outcome later
  not_as_many : n ≡ number BadParameter → (length cs ≡ length xs → ⊥) → later ≡ s → filled ≡ room → IsAttemptedByNumbers s w xs cs room n filled outcome later
  no_places : n ≡ number NoRoom → length cs ≡ length xs → length room < length xs → later ≡ s → filled ≡ room
      → IsAttemptedByNumbers s w xs cs room n filled outcome later
