-- What one turn of a worker does: one call of the store, and what the worker notes of it.
use Rattle.std.specs.Prelude.{◌≡◌, ℕ, ◌+◌, ◌-◌, ◌*◌, ◌<◌, ◌≤◌, List, [], ◌∷◌, ◌++◌, length, drop, true, ◌⊎◌, Option, Some, None, slice_get}
use Rattle.object_trait.specs.declared.event.Event.{Event}
use Rattle.object_trait.specs.declared.event.EventKind.{EventKind}
use Rattle.object_trait.specs.declared.event.EventKind.TheVariants.{Begin, Commit, Abort}
use Rattle.serial_order.specs.History.{begins, summary, is_open}
use Rattle.serial_order.specs.declared.command.Command.{Command}
use Rattle.serial_order.specs.declared.command.Command.TheVariants as command
use Rattle.serial_order.specs.declared.refusal.Refusal.{Refusal}
use Rattle.serial_order.specs.declared.refusal.Refusal.TheVariants.{NoMemory}
use Rattle.store_laws.specs.Stored.{Stored, objects, refusal_of}
use Rattle.store.specs.Calls.{noted}
use Rattle.jobs_text.specs.Jobs.{Call}
use Rattle.worker_turns.specs.declared.outcome.Outcome.{Outcome}
use Rattle.worker_turns.specs.declared.outcome.Outcome.TheVariants.{Committed, GaveUp, Refused}
use Rattle.worker_turns.specs.declared.outcome.Receipt.{Receipt}
use Rattle.worker_turns.specs.declared.phase.Phase.{Phase}
use Rattle.worker_turns.specs.declared.phase.Phase.TheVariants.{Idle, Going, Breaking, Refusing}
use Rattle.worker_turns.specs.Parts.{IsReply, IsNoReply}
use Rattle.worker_turns.specs.Progress.{Progress, current_job, open_in_phase, IsAtEnd, IsTold}

-- ---- what a worker notes

-- the receipt of an event of worker w that is appended to this history
abbrev pub receipt : List Event → ℕ → EventKind → Receipt
receipt H w happened = record { position = length H; event = record { worker = w; kind = happened } }

-- its try goes on
abbrev pub goes_to : Phase → Progress → Progress
goes_to phase p = record p { phase = phase }

-- it has one receipt more
abbrev pub gets : List Event → ℕ → EventKind → Progress → Progress
gets H w happened p = record p { receipts = p.receipts ++ receipt H w happened ∷ [] }

-- its job has this outcome
abbrev pub ends : Outcome → Progress → Progress
ends o p = record p { outcomes = p.outcomes ++ o ∷ []; broken = 0; phase = Idle }

-- one more try was broken
abbrev pub breaks : Progress → Progress
breaks p = record p { broken = p.broken + 1; phase = Idle }

-- the transaction of its try is open
abbrev pub HasOpen : List Event → Option ℕ → Type 0
HasOpen H None = Unit {0}
HasOpen H (Some t) = is_open (summary H) t ≡ true

-- ---- turns by phase

-- the store makes the event of worker w, and the worker gets its receipt and goes on so
abbrev pub StoreNotes : Stored → ℕ → EventKind → Stored → Type 0
StoreNotes old w happened new = new ≡ noted old w happened

-- the store refuses the command for this reason, or as memory was refused where there is no other, and isn't changed
abbrev pub RefusesFor : Stored → Command → Refusal → Stored → Type 0
RefusesFor old asked r new = (new ≡ old) × ((refusal_of old asked ≡ Some r) ⊎ ((refusal_of old asked ≡ None) × (r ≡ NoMemory)))

-- a transaction begins, or the job is refused; or there is no memory for receipts, and nothing is asked of the store
abbrev pub Begins : Stored → ℕ → Progress → Stored → Progress → Type 0
Begins old w p new q =
    (StoreNotes old w (Begin (begins old.history)) new × (q ≡ goes_to (Going (begins old.history) 0) (gets old.history w (Begin (begins old.history)) p)))
    ⊎ (((r : Refusal) × RefusesFor old command.Begin r new × (q ≡ ends (Refused r) p))
    ⊎ ((new ≡ old) × (q ≡ ends (Refused NoMemory) p)))

-- the next call has a reply, or none, or is refused; or there is no memory for its receipt, and the transaction is aborted in its place
abbrev pub Calls : ℕ → ℕ → Call → Stored → ℕ → Progress → Stored → Progress → Type 0
Calls t done call old w p new q =
    ((e : EventKind) × IsReply (objects old) t call e × StoreNotes old w e new × (q ≡ goes_to (Going t (done + 1)) (gets old.history w e p)))
    ⊎ (((e : EventKind) × IsNoReply (objects old) t call e × StoreNotes old w e new × (q ≡ goes_to (Breaking t done) (gets old.history w e p)))
    ⊎ (((r : Refusal) × RefusesFor old (command.Call t (call.0) (call.1)) r new × (q ≡ goes_to (Refusing t done r) p))
    ⊎ (StoreNotes old w (Abort t) new × (q ≡ ends (Refused NoMemory) (gets old.history w (Abort t) p)))))

-- the transaction commits
abbrev pub Commits : ℕ → Stored → ℕ → Progress → Stored → Progress → Type 0
Commits t old w p new q = StoreNotes old w (Commit t) new × (q ≡ ends (Committed t) (gets old.history w (Commit t) p))

-- the transaction of a broken try aborts; the job is given up where it was the last
abbrev pub GivesBack : ℕ → Stored → ℕ → Progress → Stored → Progress → Type 0
GivesBack t old w p new q =
    StoreNotes old w (Abort t) new
    × (((p.broken + 1 < p.tries) × (q ≡ breaks (gets old.history w (Abort t) p)))
    ⊎ ((p.tries ≤ p.broken + 1) × (q ≡ ends GaveUp (gets old.history w (Abort t) p))))

-- the transaction of a refused call aborts, and so the job is refused
abbrev pub RefusesJob : ℕ → Refusal → Stored → ℕ → Progress → Stored → Progress → Type 0
RefusesJob t r old w p new q = StoreNotes old w (Abort t) new × (q ≡ ends (Refused r) (gets old.history w (Abort t) p))

-- the next call, or the commit where there is none
abbrev pub CallsOrCommits : ℕ → ℕ → Option Call → Stored → ℕ → Progress → Stored → Progress → Type 0
CallsOrCommits t done None old w p new q = Commits t old w p new q
CallsOrCommits t done (Some call) old w p new q = Calls t done call old w p new q

-- a turn in each phase
abbrev pub TurnsIn : Phase → Stored → ℕ → Progress → Stored → Progress → Type 0
TurnsIn Idle old w p new q = Begins old w p new q
TurnsIn (Going t done) old w p new q = CallsOrCommits t done (slice_get (current_job p) done) old w p new q
TurnsIn (Breaking t done) old w p new q = GivesBack t old w p new q
TurnsIn (Refusing t done r) old w p new q = RefusesJob t r old w p new q

-- a turn of worker w
abbrev pub Turns : Stored → ℕ → Progress → Stored → Progress → Type 0
Turns old w p new q = TurnsIn p.phase old w p new q

-- ---- how many are left

-- the most turns that a try of this job takes: its begin, its calls, and its end, which may be that of a refused call
abbrev pub turns_of : List Call → ℕ
turns_of calls = length calls + 2

-- and those that it took
abbrev pub turns_in : Phase → ℕ
turns_in Idle = 0
turns_in (Going t done) = done + 1
turns_in (Breaking t done) = done + 2
turns_in (Refusing t done r) = done + 2

-- the most turns that these jobs take, each tried this often
abbrev pub turns_for : ℕ → List (List Call) → ℕ
turns_for tries [] = 0
turns_for tries (job ∷ jobs) = tries * turns_of job + turns_for tries jobs

-- the most turns that a worker has left
abbrev pub turns_left : Progress → ℕ
turns_left p = turns_for p.tries (drop (length p.outcomes) p.jobs) - (p.broken * turns_of (current_job p) + turns_in p.phase)

-- ---- laws

-- by a turn, what a worker noted goes on being the parts of its jobs, where its open transaction is open in the store
abbrev pub TurnsAreTold : Type 0
TurnsAreTold =
    (old : Stored) (w : ℕ) (p : Progress) (new : Stored) (q : Progress) → IsTold (objects old) p → (IsAtEnd p → ⊥)
    → HasOpen old.history (open_in_phase p.phase) → Turns old w p new q → IsTold (objects new) q

-- and it takes at least one from the turns that the worker has left
abbrev pub TurnsAreCounted : Type 0
TurnsAreCounted =
    (old : Stored) (w : ℕ) (p : Progress) (new : Stored) (q : Progress) → IsTold (objects old) p → (IsAtEnd p → ⊥)
    → Turns old w p new q → turns_left q < turns_left p
