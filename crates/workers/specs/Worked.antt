-- What comes back of workers: a store, and a report of each.
use Rattle.std.specs.Prelude.{◌≡◌, ℕ, ◌<◌, ◌≤◌, List, [], ◌++◌, length, map, All, Contains, true, false, Option, Some, None, slice_get, ◌⊎◌, Bool, ◌&&◌, nat_le}
use Rattle.type_table.specs.Limits.{most_workers, most_tries}
use Rattle.object_trait.specs.declared.event.Event.{Event}
use Rattle.serial_order.specs.History.{begins, summary, is_open}
use Rattle.serial_order.specs.declared.refusal.Refusal.{Refusal}
use Rattle.store_laws.specs.Stored.{Stored, objects}
use Rattle.jobs_text.specs.Jobs.{Call}
use Rattle.worker_turns.specs.declared.outcome.Outcome.TheVariants.{Committed, Refused, NotRun}
use Rattle.worker_turns.specs.declared.outcome.Report.{Report}
use Rattle.worker_turns.specs.Parts.{AreParts}
use Rattle.worker_turns.specs.Progress.{Progress, receipt_kinds}
use Rattle.workers.specs.declared.fault.WorkFault.{WorkFault}
use Rattle.workers.specs.declared.fault.WorkFault.TheVariants.{BadWorkers, BadTries, NoMemory}
use Rattle.workers.specs.Events.{receipts_of, IsReplayed}
use Rattle.workers.specs.SharedState.{Start, SharedState, past, HasCause, IsKeptSince, HasEnded}

-- ---- one report

-- what worker w noted, whose jobs were all run: its events since the start, at their places and in their order, which are the parts
-- of its jobs by their outcomes; and what the history owes each outcome
pub record IsReport (o : Start) (H : List Event) (w : ℕ) (jobs : List (List Call)) (r : Report) : Type 0 where
  pub receipts : r.receipts.items ≡ receipts_of w (length o.store.history) (past o H)
  pub as_many : length r.outcomes.items ≡ length jobs
  pub parts : AreParts (objects o.store) o.tries jobs r.outcomes.items (receipt_kinds r.receipts.items)
  pub ran : Contains r.outcomes.items NotRun → ⊥
  pub replayed : (t : ℕ) → Contains r.outcomes.items (Committed t) → IsReplayed H t (receipt_kinds r.receipts.items)
  pub causes : (reason : Refusal) → Contains r.outcomes.items (Refused reason) → HasCause o H reason

-- what there is of a worker that wasn't started
pub record IsOfNone (jobs : List (List Call)) (r : Report) : Type 0 where
  pub receipts : r.receipts.items ≡ []
  pub outcomes : r.outcomes.items ≡ map (λ (job : List Call). NotRun) jobs

-- ---- all of them

-- the first n workers did all their jobs, and the others weren't started
pub record AreReports (o : Start) (H : List Event) (n : ℕ) (reports : List Report) : Type 0 where
  pub as_many : length reports ≡ length o.jobs
  pub few : n ≤ length o.jobs
  pub started : (w : ℕ) (jobs : List (List Call)) (r : Report) → w < n → slice_get o.jobs w ≡ Some jobs → slice_get reports w ≡ Some r → IsReport o H w jobs r
  pub others : (w : ℕ) (jobs : List (List Call)) (r : Report) → n ≤ w → slice_get o.jobs w ≡ Some jobs → slice_get reports w ≡ Some r → IsOfNone jobs r

-- the store has its history and what the first n workers made of it, and nothing else changed; each event since the start is a worker's,
-- and each transaction that began since then has ended
pub record HasWorked (o : Start) (n : ℕ) (new : Stored) (reports : List Report) : Type 0 where
  pub store : new ≡ record o.store { history = new.history }
  pub history : o.store.history ++ past o new.history ≡ new.history
  pub inside : All (λ (e : Event). e.worker < n) (past o new.history)
  pub ended : (t : ℕ) → begins o.store.history ≤ t → is_open (summary new.history) t ≡ false
  pub are_reports : AreReports o new.history n reports

-- ---- with its fault

-- whether this many lists of jobs may be handed in
abbrev pub are_workers : ℕ → Bool
are_workers n = nat_le 1 n && nat_le n most_workers

-- whether each job may be tried this often
abbrev pub are_tries : ℕ → Bool
are_tries n = nat_le 1 n && nat_le n most_tries

-- nothing was done
pub record DidNothing (old new : Stored) (reports : List Report) : Type 0 where
  pub store : new ≡ old
  pub no_reports : reports ≡ []

-- what the workers did, where there were not too few or too many lists or tries. Where memory was refused, some of them were started or
-- none was
abbrev pub Works : Start → Option WorkFault → Stored → List Report → Type 0
Works o None new reports = (are_workers (length o.jobs) ≡ true) × (are_tries o.tries ≡ true) × HasWorked o (length o.jobs) new reports
Works o (Some BadWorkers) new reports = (are_workers (length o.jobs) ≡ false) × DidNothing o.store new reports
Works o (Some BadTries) new reports = (are_workers (length o.jobs) ≡ true) × (are_tries o.tries ≡ false) × DidNothing o.store new reports
Works o (Some NoMemory) new reports =
    (are_workers (length o.jobs) ≡ true) × (are_tries o.tries ≡ true)
    × (DidNothing o.store new reports ⊎ ((n : ℕ) × (0 < n) × (n < length o.jobs) × HasWorked o n new reports))

-- ---- laws

-- what this worker noted is in its report
pub record IsReportOf (p : Progress) (r : Report) : Type 0 where
  pub receipts : r.receipts.items ≡ p.receipts
  pub outcomes : r.outcomes.items ≡ p.outcomes

-- there is a report of each worker: of one that was let in, with what it noted, and of another, as of one that wasn't started
pub record AreReportsOf (s : SharedState) (reports : List Report) : Type 0 where
  pub as_many : length reports ≡ length s.workers
  pub started : (w : ℕ) (p : Progress) (r : Report) → w < s.let_in → slice_get s.workers w ≡ Some p → slice_get reports w ≡ Some r → IsReportOf p r
  pub others : (w : ℕ) (p : Progress) (r : Report) → s.let_in ≤ w → slice_get s.workers w ≡ Some p → slice_get reports w ≡ Some r → IsOfNone p.jobs r

-- where each worker that was let in is at its end, the store and the reports are what comes back
abbrev pub EndingIsWorked : Type 0
EndingIsWorked =
    (o : Start) (s : SharedState) (reports : List Report) → IsKeptSince o s → ((w : ℕ) → HasEnded s w) → AreReportsOf s reports
    → HasWorked o s.let_in s.store reports
