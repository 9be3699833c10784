-- The room that a worker keeps for what it will note.
use Rattle.std.specs.Prelude.{ℕ, ◌+◌, ◌<◌, ◌≤◌}
use Rattle.worker_turns.specs.declared.phase.Phase.{Phase}
use Rattle.worker_turns.specs.declared.phase.Phase.TheVariants.{Idle, Going, Breaking, Refusing}

-- where its transaction is open, there is room for the receipt of its end; where the store refused a call, also for that of the call, so
-- that it isn't a call for whose receipt there was no memory
abbrev pub HasReceiptRoom : Phase → ℕ → ℕ → Type 0
HasReceiptRoom Idle used room = Unit {0}
HasReceiptRoom (Going t done) used room = used < room
HasReceiptRoom (Breaking t done) used room = used < room
HasReceiptRoom (Refusing t done refusal) used room = used + 1 < room

-- there is room for the outcomes of all jobs too, and fewer tries are broken than there may be
pub record HasRoom (jobs used room ended places broken tries : ℕ) (phase : Phase) : Type 0 where
  pub within : ended ≤ jobs
  pub outcomes : jobs ≤ places
  pub receipts : HasReceiptRoom phase used room
  pub left : broken < tries
