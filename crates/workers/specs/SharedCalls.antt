-- What the calls at what is shared do.
use Rattle.std.specs.Prelude.{◌≡◌, ℕ, ◌+◌, ◌<◌, ◌≤◌, List, length, map, sum, Bool, true, false, Some, slice_get, slice_index_or, ◌⊎◌, vec_capacity, [], Contains}
use Rattle.type_table.specs.Limits.{most_workers}
use Rattle.store_laws.specs.Stored.{Stored}
use Rattle.worker_turns.specs.Progress.{Progress, IsUnstarted, IsAtEnd, broken_before}
use Rattle.worker_turns.specs.Turns.{turns_left}
use Rattle.jobs_text.specs.Jobs.{Call}
use Rattle.workers.specs.declared.team.Team.{Team}
use Rattle.workers.specs.declared.fault.WorkFault.{WorkFault}
use Rattle.workers.specs.declared.fault.WorkFault.TheVariants.{BadWorkers, BadTries, NoMemory}
use Rattle.workers.specs.SharedState.{Start, SharedState, TakesTurn, HasEnded}
use Rattle.workers.specs.Worked.{are_workers, are_tries}

-- ---- at the start

-- workers for these lists of jobs that did nothing, and a list with room for their reports
pub record IsTeam (jobs : List (List (List Call))) (tries : ℕ) (team : Team) : Type 0 where
  pub lists : map (λ (p : Progress). p.jobs) team.workers.items ≡ jobs
  pub fresh : (w : ℕ) (p : Progress) → slice_get team.workers.items w ≡ Some p → IsUnstarted p × (p.tries ≡ tries)
  pub few : are_workers (length jobs) ≡ true
  pub some_tries : are_tries tries ≡ true
  pub no_reports : team.reports.items ≡ []
  pub room : length team.workers.items ≤ vec_capacity team.reports

-- why there is no team for this many lists of jobs and tries
abbrev pub IsNoTeam : ℕ → ℕ → WorkFault → Type 0
IsNoTeam n tries BadWorkers = are_workers n ≡ false
IsNoTeam n tries BadTries = (are_workers n ≡ true) × (are_tries tries ≡ false)
IsNoTeam n tries NoMemory = (are_workers n ≡ true) × (are_tries tries ≡ true)

-- a store and workers that did nothing, by this start
pub record IsAtStart (o : Start) (store : Stored) (workers : List Progress) : Type 0 where
  pub is_store : o.store ≡ store
  pub jobs : map (λ (p : Progress). p.jobs) workers ≡ o.jobs
  pub fresh : (w : ℕ) (p : Progress) → slice_get workers w ≡ Some p → IsUnstarted p × (p.tries ≡ o.tries)
  pub some_tries : 0 < o.tries
  pub few : length workers ≤ most_workers

-- one more worker is let in, where there is one
abbrev pub LetsIn : SharedState → SharedState → Type 0
LetsIn s new =
    ((s.let_in < length s.workers) × (new ≡ record s { let_in = s.let_in + 1 }))
    ⊎ ((length s.workers ≤ s.let_in) × (new ≡ s))

-- ---- turns

-- worker w was let in and isn't at its end
pub record IsGoing (s : SharedState) (w : ℕ) : Type 0 where
  pub let_in : w < s.let_in
  pub p : Progress
  pub there : slice_get s.workers w ≡ Some p
  pub going : IsAtEnd p → ⊥

-- worker w takes a turn, if there is one for it, and has fewer left; at `true` it is at its end
pub record TakesTurnIfAny (s : SharedState) (w : ℕ) (ended : Bool) (new : SharedState) : Type 0 where
  pub turn : TakesTurn s w new ⊎ (HasEnded s w × (new ≡ s))
  pub fewer : (turn : TakesTurn s w new) → turns_left turn.q < turns_left turn.p
  pub at_end : ended ≡ true → HasEnded new w
  pub going : ended ≡ false → TakesTurn s w new

-- each worker that was let in is at its end
abbrev pub HaveEnded : SharedState → Type 0
HaveEnded s = (w : ℕ) → HasEnded s w

-- each that isn't at its end is among these
abbrev pub AreGoing : SharedState → List ℕ → Type 0
AreGoing s going = (w : ℕ) → HasEnded s w ⊎ Contains going w

-- none is let in any more, and of the others than w nothing changed
pub record LeavesOthers (s : SharedState) (w : ℕ) (new : SharedState) : Type 0 where
  pub let_in : new.let_in ≡ s.let_in
  pub as_many : length new.workers ≡ length s.workers
  pub others : (v : ℕ) → (v ≡ w → ⊥) → slice_get new.workers v ≡ slice_get s.workers v

-- how many tries of worker w's job were broken, where it is before another
abbrev pub broken_at : List Progress → ℕ → ℕ
broken_at workers w = slice_index_or (map broken_before workers) w 0

-- ---- how many turns are left

-- the most turns that worker w has left
abbrev pub left_at : List Progress → ℕ → ℕ
left_at workers w = slice_index_or (map turns_left workers) w 0

-- the most that all of them have left
abbrev pub left_in : List Progress → ℕ
left_in workers = sum (map turns_left workers)
