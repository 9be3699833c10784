use Rattle.std.proofs.Common.{◌≡◌, ℕ, ◌≤◌, ◌<◌, true}
use Rattle.std.specs.List.{list_any}
use Rattle.escrow_manager.specs.KeptAmount.{lists}
use Rattle.escrow_manager.proofs.way.least_amount.Given as goal

-- each so far is listed
abbrev pub invariant-loop-n : goal.invariant-loop-n
invariant-loop-n l = (j : ℕ) → 1 ≤ j → l.start ≤ j → j < l.n → list_any (lists l.way j) l.number.calls ≡ true
