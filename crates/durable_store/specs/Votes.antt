-- What is asked of a transaction that is prepared, and what is answered.
use Rattle.std.specs.Prelude.{◌≡◌, ◌⊎◌, ℕ, List, [], drop, length, Bool, true, false, Some, None, Ok}
use Rattle.serial_order.specs.History.{is_open, summary}
use Rattle.serial_order.specs.declared.command.Command.{Command}
use Rattle.serial_order.specs.declared.command.Command.TheVariants as command
use Rattle.store_laws.specs.Stored.{Steps, Stored}
use Rattle.journal.specs.declared.prepared_row.Prepared.{Prepared}
use Rattle.journal.specs.declared.outcome_row.Outcome.{Outcome}
use Rattle.journal.specs.declared.outcome_row.Outcome.TheVariants.{Aborted, Committed}
use Rattle.journal.specs.Contents.{Contents, with_prepared}
use Rattle.durable_store.specs.Durable.{prepared_in, with_all}
use Rattle.durable_store.specs.Held.{first_passing, has_key, has_number}
use Rattle.durable_store.specs.Keys.{IsFree, IsPreparedUnder, IsTaken, outcome_under, with_key}
use Rattle.durable_store.specs.declared.votes.Vote.{Vote}
use Rattle.durable_store.specs.declared.votes.Vote.TheVariants as vote
use Rattle.durable_store.specs.declared.votes.Decision.{Decision}
use Rattle.durable_store.specs.declared.votes.Decision.TheVariants as decision
use Rattle.durable_store.specs.declared.votes.Verdict.{Verdict}
use Rattle.durable_store.specs.declared.votes.Verdict.TheVariants as verdict

-- ---- prepare

-- what is kept of the transaction `p.number`, which is open, where it is prepared as `p` says: it is newly so, or was under this key; else nothing is
-- written: it isn't open, or is prepared under another key, another one is under this key, or the key is known or another one's
abbrev pub Votes : Stored → Contents → Prepared → Vote → Contents → Type 0
Votes s c p vote.Prepared new =
    (is_open (summary s.history) p.number ≡ true) × (first_passing (has_number p.number) (prepared_in c) ≡ None) × IsFree c p.key × (new ≡ with_prepared c p)
Votes s c p vote.Again new = ((was : Prepared) × (first_passing (has_number p.number) (prepared_in c) ≡ Some was) × (has_key p.key was ≡ true)) × (new ≡ c)
Votes s c p vote.NotOpen new = (is_open (summary s.history) p.number ≡ false) × (new ≡ c)
Votes s c p vote.Otherwise new = ((was : Prepared) × (first_passing (has_number p.number) (prepared_in c) ≡ Some was) × (has_key p.key was ≡ false)) × (new ≡ c)
Votes s c p vote.KeyInUse new = (first_passing (has_number p.number) (prepared_in c) ≡ None) × IsPreparedUnder c p.key × (new ≡ c)
Votes s c p (vote.Known outcome) new = (first_passing (has_number p.number) (prepared_in c) ≡ None) × (outcome_under c p.key ≡ Some outcome) × (new ≡ c)
Votes s c p vote.Taken new = (first_passing (has_number p.number) (prepared_in c) ≡ None) × IsTaken c p.key × (new ≡ c)

-- ---- decide

-- the command of a decision on t
abbrev pub decided_command : Decision → ℕ → Command
decided_command decision.Commit t = command.Commit t
decided_command decision.Abort t = command.Abort t

-- and what the key says from then on
abbrev pub decided_outcome : Decision → Outcome
decided_outcome decision.Commit = Committed []
decided_outcome decision.Abort = Aborted

-- an outcome is of this decision
abbrev pub agrees : Decision → Outcome → Bool
agrees decision.Commit (Committed replies) = true
agrees decision.Commit Aborted = false
agrees decision.Abort (Committed replies) = false
agrees decision.Abort Aborted = true

-- a transaction is prepared under the key, and ends so: its end and what the key says are written together
pub record EndsPrepared (old new : Stored) (c now : Contents) (key : List ℕ) (d : Decision) : Type 0 where
  pub p : Prepared
  pub there : first_passing (has_key key) (prepared_in c) ≡ Some p
  pub step : Steps {T = Unit {0}} old 0 (decided_command d p.number) (Ok (tt {0})) new
  pub written : now ≡ with_key key (Some (decided_outcome d)) (with_all c (drop (length old.history) new.history))

-- nobody is prepared under the key, and it says already what was decided; or an abort is kept, so that nobody commits under it later
abbrev pub IsDecidedElse : Contents → Contents → List ℕ → Decision → Type 0
IsDecidedElse c now key d =
    ((outcome : Outcome) × (outcome_under c key ≡ Some outcome) × (agrees d outcome ≡ true) × (now ≡ c))
    ⊎ ((d ≡ decision.Abort) × IsFree c key × (now ≡ with_key key (Some Aborted) c))

-- what comes of a decision; where it isn't done, nothing has changed
abbrev pub Decides : Stored → Stored → Contents → Contents → List ℕ → Decision → Verdict → Type 0
Decides old new c now key d verdict.Decided = EndsPrepared old new c now key d ⊎ (IsDecidedElse c now key d × (new ≡ old))
Decides old new c now key d (verdict.Otherwise outcome) = (outcome_under c key ≡ Some outcome) × (agrees d outcome ≡ false) × (new ≡ old) × (now ≡ c)
Decides old new c now key d verdict.Unknown = (d ≡ decision.Commit) × IsFree c key × (new ≡ old) × (now ≡ c)
Decides old new c now key d verdict.Taken = IsTaken c key × (new ≡ old) × (now ≡ c)
