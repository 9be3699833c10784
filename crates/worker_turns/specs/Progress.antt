-- How far a worker is in its jobs, and what it noted.
use Rattle.std.specs.Prelude.{◌≡◌, ℕ, ◌<◌, ◌≤◌, List, [], ◌∷◌, ◌++◌, length, map, take, Option, Some, None, slice_get, slice_index_or}
use Rattle.object_trait.specs.Object.{Object}
use Rattle.object_trait.specs.declared.event.EventKind.{EventKind}
use Rattle.object_trait.specs.declared.event.EventKind.TheVariants.{Begin}
use Rattle.jobs_text.specs.Jobs.{Call}
use Rattle.worker_turns.specs.declared.outcome.Outcome.{Outcome}
use Rattle.worker_turns.specs.declared.outcome.Receipt.{Receipt}
use Rattle.worker_turns.specs.declared.phase.Phase.{Phase}
use Rattle.worker_turns.specs.declared.phase.Phase.TheVariants.{Idle, Going, Breaking, Refusing}
use Rattle.worker_turns.specs.Parts.{AreReplies, IsNoReply, AreBroken, AreParts, IsCallRefusal}

-- a worker's jobs, how often each may be tried, and what it noted; of the job that is being done how many tries were broken, and
-- where its try is
pub record Progress : Type 0 where
  pub jobs : List (List Call)
  pub tries : ℕ
  pub receipts : List Receipt
  pub outcomes : List Outcome
  pub broken : ℕ
  pub phase : Phase

-- what happened by these receipts
abbrev pub receipt_kinds : List Receipt → List EventKind
receipt_kinds receipts = map (λ (r : Receipt). r.event.kind) receipts

-- the calls of the job that is being done
abbrev pub current_job : Progress → List Call
current_job p = slice_index_or p.jobs (length p.outcomes) []

-- each job has its outcome
abbrev pub IsAtEnd : Progress → Type 0
IsAtEnd p = length p.outcomes ≡ length p.jobs

-- nothing was done
pub record IsUnstarted (p : Progress) : Type 0 where
  pub receipts : p.receipts ≡ []
  pub outcomes : p.outcomes ≡ []
  pub broken : p.broken ≡ 0
  pub phase : p.phase ≡ Idle

-- the transaction that is open in this phase
abbrev pub open_in_phase : Phase → Option ℕ
open_in_phase Idle = None
open_in_phase (Going t done) = Some t
open_in_phase (Breaking t done) = Some t
open_in_phase (Refusing t done refusal) = Some t

-- where it is in this phase after this many broken tries of its job: those before a try that is still to begin
abbrev pub broken_in : Phase → ℕ → ℕ
broken_in Idle broken = broken
broken_in (Going t done) broken = 0
broken_in (Breaking t done) broken = 0
broken_in (Refusing t done refusal) broken = 0

-- how many tries of its job were broken, where it is before another
abbrev pub broken_before : Progress → ℕ
broken_before p = broken_in p.phase p.broken

-- ---- the try that is being made

-- the transaction began, and this many calls had a reply each
pub record IsTryBegun (objects : List Object) (calls : List Call) (t done : ℕ) (replies : List EventKind) : Type 0 where
  pub within : done ≤ length calls
  pub are_replies : AreReplies objects t (take done calls) replies

-- its events so far
abbrev pub IsSoFar : List Object → List Call → Phase → List EventKind → Type 0
IsSoFar objects calls Idle es = es ≡ []
IsSoFar objects calls (Going t done) es = (replies : List EventKind) × IsTryBegun objects calls t done replies × (es ≡ Begin t ∷ replies)
IsSoFar objects calls (Breaking t done) es =
    (replies : List EventKind) × IsTryBegun objects calls t done replies
    × (call : Call) × (slice_get calls done ≡ Some call) × (answer : EventKind) × IsNoReply objects t call answer
    × (es ≡ (Begin t ∷ replies) ++ answer ∷ [])
IsSoFar objects calls (Refusing t done refusal) es =
    (replies : List EventKind) × IsTryBegun objects calls t done replies
    × (call : Call) × (slice_get calls done ≡ Some call) × IsCallRefusal objects call refusal
    × (es ≡ Begin t ∷ replies)

-- ---- all of it

-- the receipts are the parts of the jobs that ended, the broken tries of the one that is being done, and the events of its try
pub record IsTold (objects : List Object) (p : Progress) : Type 0 where
  pub within : length p.outcomes ≤ length p.jobs
  pub left : p.broken < p.tries
  pub ended : List EventKind
  pub are_parts : AreParts objects p.tries p.jobs p.outcomes ended
  pub behind : List EventKind
  pub are_broken : AreBroken objects (current_job p) p.broken behind
  pub now : List EventKind
  pub so_far : IsSoFar objects (current_job p) p.phase now
  pub are : receipt_kinds p.receipts ≡ (ended ++ behind) ++ now
  pub idle : IsAtEnd p → (p.phase ≡ Idle) × (p.broken ≡ 0)
