-- How many transactions commit before the last operation of another one that survives, told from the last event back.
use Rattle.std.specs.Prelude.{◌≡◌, ◌<◌, ℕ, ◌+◌, ◌-◌, List, [], ◌∷◌, length, take, drop, get_or, not, ◌&&◌, if◌then◌else◌, min, max}
use Rattle.object_trait.specs.declared.event.Event.{Event}
use Rattle.serial_order.specs.History.{commits, committed_by}
use Rattle.serial_order.specs.Readings.{is_op_of, is_rolled_back, taken_back}
use Rattle.history_audit.specs.declared.dates.Dates.{Dates}

-- how many operations of u before some events these take back
abbrev pub taken_before : ℕ → List Event → ℕ
taken_before u [] = 0
taken_before u (e ∷ K) = (taken_back u e.kind + taken_before u K) - (if is_op_of u e.kind then 1 else 0)

-- how many transactions had committed, n before these events, at the last operation of u among them that no rollback strikes, or 0
abbrev pub date_from : ℕ → ℕ → List Event → ℕ
date_from u n [] = 0
date_from u n (e ∷ K) =
    max (if is_op_of u e.kind && not (is_rolled_back u K) then n else 0) (date_from u (n + length (committed_by e.kind)) K)

-- what is kept of the events from this place on; more of them than there are events before it can't be taken back
pub record AreDatesFrom (at : ℕ) (H : List Event) (last : Dates) : Type 0 where
  pub committed : last.committed ≡ length (commits (take at H))
  pub as_many : length last.taken_back.items ≡ length last.dates.items
  pub taken_back : (u : ℕ) → u < length last.dates.items → min (get_or last.taken_back.items u 0) at ≡ min (taken_before u (drop at H)) at
  pub dates : (u : ℕ) → u < length last.dates.items → get_or last.dates.items u 0 ≡ date_from u (length (commits (take at H))) (drop at H)
