-- What is under the lock, and what is known of it whenever the lock is free.
use Rattle.std.specs.Prelude.{◌≡◌, ℕ, ◌+◌, ◌<◌, ◌≤◌, List, [], ◌++◌, length, map, filter, drop, set, Bool, true, Some, is_some, slice_get, All, Contains}
use Rattle.object_trait.specs.declared.event.Event.{Event}
use Rattle.serial_order.specs.Operations.{of}
use Rattle.serial_order.specs.History.{begins, summary, is_open, surviving}
use Rattle.serial_order.specs.Machine.{IsRun}
use Rattle.type_table.specs.Limits.{most_workers}
use Rattle.serial_order.specs.Replay.{open_count}
use Rattle.serial_order.specs.After.{beginners}
use Rattle.serial_order.specs.declared.refusal.Refusal.{Refusal}
use Rattle.serial_order.specs.declared.refusal.Refusal.TheVariants.{TooManyOpen, HistoryFull}
use Rattle.store_laws.specs.Stored.{Stored, objects}
use Rattle.jobs_text.specs.Jobs.{Call}
use Rattle.worker_turns.specs.declared.outcome.Outcome.TheVariants.{Committed, Refused, NotRun}
use Rattle.worker_turns.specs.declared.phase.Phase.TheVariants.{Refusing}
use Rattle.worker_turns.specs.Progress.{Progress, IsTold, IsUnstarted, IsAtEnd, receipt_kinds, open_in_phase}
use Rattle.worker_turns.specs.Turns.{Turns}
use Rattle.workers.specs.Events.{receipts_of, done_by, IsReplayed}

-- ---- what is there

-- the store as it was at the start, the jobs of each worker, and how often each job may be tried
pub record Start : Type 0 where
  pub store : Stored
  pub jobs : List (List (List Call))
  pub tries : ℕ

-- the store, the workers, and how many of them were let in
pub record SharedState : Type 0 where
  pub store : Stored
  pub workers : List Progress
  pub let_in : ℕ

-- the events that came since the start
abbrev pub past : Start → List Event → List Event
past o H = drop (length o.store.history) H

-- a transaction of its own is open
abbrev pub is_going : Progress → Bool
is_going p = is_some (open_in_phase p.phase)

-- ---- what is known of a worker

-- worker w began t since the start, and t is open
pub record IsOwn (o : Start) (H : List Event) (w t : ℕ) : Type 0 where
  pub still_open : is_open (summary H) t ≡ true
  pub beginner : slice_get (beginners H) t ≡ Some w
  pub new : begins o.store.history ≤ t

-- what a history owes a refusal, and goes on owing it: where it was full, it has no room for one more transaction; where too many were
-- open, those that were open at the start would be too many with one for each worker
abbrev pub HasCause : Start → List Event → Refusal → Type 0
HasCause o H HistoryFull = o.store.limits.events < length H + open_count (summary H) + 2
HasCause o H TooManyOpen = o.store.limits.«open» < open_count (summary o.store.history) + length o.jobs
HasCause o H _ = Unit {0}

pub record IsWorker (o : Start) (H : List Event) (w : ℕ) (p : Progress) : Type 0 where
  pub tries : p.tries ≡ o.tries
  -- its receipts are its events since the start
  pub receipts : receipts_of w (length o.store.history) (past o H) ≡ p.receipts
  -- and the parts of its jobs
  pub told : IsTold (objects o.store) p
  -- the transaction of its try is its own
  pub owns : (t : ℕ) → open_in_phase p.phase ≡ Some t → IsOwn o H w t
  pub own_operations : (t : ℕ) → open_in_phase p.phase ≡ Some t → of t (surviving H) ≡ done_by t (receipt_kinds p.receipts)
  -- what it noted of transactions that committed is what the serial order replays
  pub replayed : (t : ℕ) → Contains p.outcomes (Committed t) → IsReplayed H t (receipt_kinds p.receipts)
  -- and nothing of those that haven't begun
  pub none_ahead : (t : ℕ) → begins H ≤ t → done_by t (receipt_kinds p.receipts) ≡ []
  -- none of its jobs counts as not run
  pub ran : Contains p.outcomes NotRun → ⊥
  -- refusals have a cause
  pub causes : (r : Refusal) → Contains p.outcomes (Refused r) → HasCause o H r
  pub refusing : (t done : ℕ) (r : Refusal) → p.phase ≡ Refusing t done r → HasCause o H r

-- ---- all of it

-- a worker whose transaction this is
pub record HasOwner (t : ℕ) (ps : List Progress) : Type 0 where
  pub w : ℕ
  pub p : Progress
  pub there : slice_get ps w ≡ Some p
  pub owns : open_in_phase p.phase ≡ Some t

pub record IsKeptSince (o : Start) (s : SharedState) : Type 0 where
  -- of the store nothing but the history changed, and that went on
  pub store : s.store ≡ record o.store { history = s.store.history }
  pub goes_on : o.store.history ++ past o s.store.history ≡ s.store.history
  pub jobs : map (λ (p : Progress). p.jobs) s.workers ≡ o.jobs
  pub workers : (w : ℕ) (p : Progress) → slice_get s.workers w ≡ Some p → IsWorker o s.store.history w p
  -- those that weren't let in did nothing
  pub waiting : (w : ℕ) (p : Progress) → s.let_in ≤ w → slice_get s.workers w ≡ Some p → IsUnstarted p
  pub inside : All (λ (e : Event). e.worker < s.let_in) (past o s.store.history)
  -- the transactions that began since the start and are open are those of the workers
  pub owners : (t : ℕ) → begins o.store.history ≤ t → is_open (summary s.store.history) t ≡ true → HasOwner t s.workers
  pub open_now : open_count (summary s.store.history) ≡ open_count (summary o.store.history) + length (filter is_going s.workers)
  pub few_let_in : s.let_in ≤ length s.workers
  pub few : length s.workers ≤ most_workers

-- ---- what is done there

-- a turn of worker w, who isn't at its end
pub record TakesTurn (s : SharedState) (w : ℕ) (new : SharedState) : Type 0 where
  pub let_in : w < s.let_in
  pub p : Progress
  pub there : slice_get s.workers w ≡ Some p
  pub going : IsAtEnd p → ⊥
  pub q : Progress
  pub turn : Turns s.store w p new.store q
  pub is : new ≡ record { store = new.store; workers = set s.workers w q; let_in = s.let_in }

-- worker w is at its end, or isn't one that was let in
abbrev pub HasEnded : SharedState → ℕ → Type 0
HasEnded s w = (p : Progress) → w < s.let_in → slice_get s.workers w ≡ Some p → IsAtEnd p

-- ---- laws

-- nothing was done yet
abbrev pub StartIsKept : Type 0
StartIsKept =
    (o : Start) (s : SharedState) → s.store ≡ o.store → map (λ (p : Progress). p.jobs) s.workers ≡ o.jobs
    → ((w : ℕ) (p : Progress) → slice_get s.workers w ≡ Some p → IsUnstarted p × (p.tries ≡ o.tries)) → 0 < o.tries
    → s.let_in ≤ length s.workers → length s.workers ≤ most_workers → IsRun (objects o.store) o.store.history → IsKeptSince o s

-- one more is let in
abbrev pub LettingInIsKept : Type 0
LettingInIsKept =
    (o : Start) (s : SharedState) → IsKeptSince o s → s.let_in < length s.workers → IsKeptSince o (record s { let_in = s.let_in + 1 })

-- what is known is known after a turn
abbrev pub TurnsAreKept : Type 0
TurnsAreKept =
    (o : Start) (s : SharedState) (w : ℕ) (new : SharedState) → IsRun (objects s.store) s.store.history → IsRun (objects new.store) new.store.history
    → IsKeptSince o s → TakesTurn s w new → IsKeptSince o new
