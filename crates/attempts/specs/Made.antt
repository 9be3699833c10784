-- The calls of a transaction that began, and its end.
use Rattle.std.specs.Prelude.{◌≡◌, ℕ, suc, ◌+◌, List, [], ◌∷◌, ◌++◌, length, map, take, Bool, true, false, ◌&&◌, ◌==◌, Option, Some, None, slice_get, Result, Ok, Err}
use Rattle.object_trait.specs.declared.event.EventKind.{EventKind}
use Rattle.object_trait.specs.declared.event.EventKind.TheVariants.{Begin, Commit, Abort}
use Rattle.serial_order.specs.History.{begins, summary, is_open}
use Rattle.serial_order.specs.Replay.{open_count, is_history_full}
use Rattle.serial_order.specs.declared.command.Command.TheVariants as command
use Rattle.serial_order.specs.declared.refusal.Refusal.{Refusal}
use Rattle.object_calls.specs.declared.answer.Answer.{Answer}
use Rattle.object_calls.specs.declared.answer.Answer.TheVariants as answer
use Rattle.store_laws.specs.Stored.{Stored, objects}
use Rattle.attempts.specs.declared.outcome.Attempt.{Attempt}
use Rattle.attempts.specs.declared.outcome.Attempt.TheVariants.{Done, Ended, NotBegun}
use Rattle.attempts.specs.declared.outcome.Ending.{Ending}
use Rattle.attempts.specs.declared.outcome.Ending.TheVariants as ending
use Rattle.attempts.specs.declared.outcome.Stop.{Stop}
use Rattle.attempts.specs.Commands.{CallAt, call_command, begin_and_calls, is_for_memory, commands_replayed, with_kinds}
use Rattle.attempts.specs.Answers.{HasAttemptRoom, operation_events, EndsSo, IsDoneAttempt}

-- memory is refused nowhere
abbrev pub never : ℕ → Bool
never place = false

-- ---- the begin

-- the transaction of an attempt of so many calls began, and there is room for them
pub record HasBegun (old : Stored) (w t calls : ℕ) (begun : Stored) : Type 0 where
  pub number : t ≡ begins old.history
  pub enough : HasAttemptRoom old calls
  pub replays : begun ≡ commands_replayed old never w (command.Begin ∷ [])
  pub events : begun ≡ with_kinds old w (Begin t ∷ [])
  pub going : is_open (summary begun.history) t ≡ true
  pub room : is_history_full begun.limits begun.history calls ≡ false

-- ---- calls

-- the store after calls with these operations: t stays open, and each took the room of one event
pub record CallsAreMade (s : Stored) (w t : ℕ) (calls : List CallAt) (ks : List ℕ) (now : Stored) : Type 0 where
  pub as_many : length ks ≡ length calls
  pub replays : now ≡ commands_replayed s never w (map (call_command t) calls)
  pub events : now ≡ with_kinds s w (operation_events t calls ks)
  pub going : is_open (summary now.history) t ≡ true
  pub room : length now.history + open_count (summary now.history) ≡ length s.history + open_count (summary s.history) + length calls

-- a call that isn't replied to
pub record IsLastCall (s : Stored) (w t : ℕ) (call : CallAt) (how : Ending) (now : Stored) : Type 0 where
  pub answer : List EventKind
  pub ends : EndsSo (objects s) t call how answer
  pub replays : now ≡ commands_replayed s (λ place. is_for_memory how) w (call_command t call ∷ [])
  pub events : now ≡ with_kinds s w answer
  pub going : is_open (summary now.history) t ≡ true

-- the operation of a reply, or how an answer ends an attempt
abbrev pub replied : Answer → Result ℕ Ending
replied (answer.Reply k) = Ok k
replied (answer.Busy u) = Err (ending.Busy u)
replied answer.None = Err ending.None

-- and so of what comes of a call, which may be refused
abbrev pub reply_to : Result Answer Refusal → Result ℕ Ending
reply_to (Ok a) = replied a
reply_to (Err r) = Err (ending.Refused r)

-- a call is made
abbrev pub MakesCall : Stored → ℕ → ℕ → CallAt → Result ℕ Ending → Stored → Type 0
MakesCall s w t call (Ok k) now = CallsAreMade s w t (call ∷ []) (k ∷ []) now
MakesCall s w t call (Err how) now = IsLastCall s w t call how now

-- calls are made up to this one, which isn't replied to
pub record CallsAreStopped (s : Stored) (w t : ℕ) (calls : List CallAt) (ks : List ℕ) (at : ℕ) (how : Ending) (now : Stored) : Type 0 where
  pub before : Stored
  pub made : CallsAreMade s w t (take at calls) ks before
  pub call : CallAt
  pub there : slice_get calls at ≡ Some call
  pub last : IsLastCall before w t call how now

-- calls are made
abbrev pub MakesCalls : Stored → ℕ → ℕ → List CallAt → List ℕ → Result (Unit {0}) Stop → Stored → Type 0
MakesCalls s w t calls ks (Ok x) now = CallsAreMade s w t calls ks now
MakesCalls s w t calls ks (Err stop) now = CallsAreStopped s w t calls ks stop.at stop.how now

-- ---- and the end

-- all calls had their operations, and t commits
pub record TransactionCommits (s : Stored) (w t : ℕ) (calls : List CallAt) (ks : List ℕ) (now : Stored) : Type 0 where
  pub as_many : length ks ≡ length calls
  pub replays : now ≡ commands_replayed s never w (map (call_command t) calls ++ command.Commit t ∷ [])
  pub events : now ≡ with_kinds s w (operation_events t calls ks ++ Commit t ∷ [])

-- the call at this place had none, and t aborts
pub record TransactionAborts (s : Stored) (w t : ℕ) (calls : List CallAt) (at : ℕ) (how : Ending) (now : Stored) : Type 0 where
  pub call : CallAt
  pub there : slice_get calls at ≡ Some call
  pub operations : List ℕ
  pub as_many : length operations ≡ at
  pub answer : List EventKind
  pub ends : EndsSo (objects s) t call how answer
  pub replays : now ≡ commands_replayed s (λ place. is_for_memory how && place == at) w (map (call_command t) (take (suc at) calls) ++ command.Abort t ∷ [])
  pub events : now ≡ with_kinds s w ((operation_events t (take at calls) operations ++ answer) ++ Abort t ∷ [])

-- calls that were made up to their end, or to one that isn't replied to, and the end of their transaction
abbrev pub EndsCalls : Stored → ℕ → ℕ → List CallAt → List ℕ → Result (Unit {0}) Stop → Stored → Type 0
EndsCalls s w t calls ks (Ok x) now = TransactionCommits s w t calls ks now
EndsCalls s w t calls ks (Err stop) now = TransactionAborts s w t calls stop.at stop.how now

abbrev pub Transacts : Stored → ℕ → ℕ → List CallAt → Attempt → Stored → Type 0
Transacts s w t calls (Done ks) now = TransactionCommits s w t calls ks.items now
Transacts s w t calls (Ended at how) now = TransactionAborts s w t calls at how now
Transacts s w t calls (NotBegun r) now = ⊥

-- ---- calls that are made all at once

-- they committed, and their history is the replay of their commands
pub record AreDone (old : Stored) (w : ℕ) (calls : List CallAt) (ks : List ℕ) (new : Stored) : Type 0 where
  pub answers : IsDoneAttempt old w calls ks new
  pub replays : new ≡ commands_replayed old never w (begin_and_calls (begins old.history) calls ++ command.Commit (begins old.history) ∷ [])

-- so a call has this operation, or nothing has changed
abbrev pub DoesCalls : Stored → ℕ → List CallAt → Option ℕ → Stored → Type 0
DoesCalls old w calls None new = new ≡ old
DoesCalls old w calls (Some k) new = AreDone old w calls (k ∷ []) new
