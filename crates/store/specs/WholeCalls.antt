-- A whole transaction of one call, by its three commands.
use Rattle.std.specs.Prelude.{◌≡◌, ℕ, List, false, nat_le, Option, Some, None, Ok, slice_get}
use Rattle.serial_order.specs.History.{begins, summary}
use Rattle.serial_order.specs.Replay.{open_count, is_history_full, call_at}
use Rattle.serial_order.specs.declared.command.Command.TheVariants.{Begin, Commit}
use Rattle.object_calls.specs.declared.answer.Answer.TheVariants.{Reply}
use Rattle.store_laws.specs.Stored.{Stored, objects, stored_after, Steps}
use Rattle.store.specs.Calls.{AnswersCall}

-- it began, its call c at x was replied to with operation k, and it committed. There was room for all three events
pub record IsTransacted (old : Stored) (w x c k : ℕ) (new : Stored) : Type 0 where
  pub few : nat_le old.limits.«open» (open_count (summary old.history)) ≡ false
  pub room : is_history_full old.limits old.history 3 ≡ false
  pub begun : Stored
  pub began : Steps old w Begin (Ok (begins old.history)) begun
  pub called : Stored
  pub answers : AnswersCall begun w (begins old.history) x c (Ok (Reply k)) called
  pub commits : new ≡ stored_after called w (Commit (begins old.history))

-- or nothing has changed
abbrev pub TransactsCall : Stored → ℕ → ℕ → ℕ → Option ℕ → Stored → Type 0
TransactsCall old w x c None new = new ≡ old
TransactsCall old w x c (Some k) new = IsTransacted old w x c k new

-- and so of a call that is named
abbrev pub TransactsNamed : Stored → ℕ → ℕ → List ℕ → Option ℕ → Stored → Type 0
TransactsNamed old w x name None new = new ≡ old
TransactsNamed old w x name (Some k) new = (c : ℕ) × (call_at (slice_get (objects old) x) name ≡ Some c) × IsTransacted old w x c k new

-- and of one by its number
abbrev pub TransactsNumbered : Stored → ℕ → ℕ → ℕ → Option ℕ → Stored → Type 0
TransactsNumbered old w x c None new = new ≡ old
TransactsNumbered old w x c (Some k) new = (name : List ℕ) × (call_at (slice_get (objects old) x) name ≡ Some c) × IsTransacted old w x c k new
