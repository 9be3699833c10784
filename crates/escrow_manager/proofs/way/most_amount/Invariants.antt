use Rattle.std.proofs.Common.{◌≡◌, ℕ, ◌≤◌, ◌<◌, true}
use Rattle.std.specs.List.{list_any}
use Rattle.escrow_manager.specs.KeptAmount.{lists}
use Rattle.escrow_manager.proofs.way.most_amount.Given as goal

-- each that was passed is listed
abbrev pub invariant-amounts : goal.invariant-amounts
invariant-amounts l = record {
  few : l.n ≤ l.stop;
  most : l.n ≤ l.number.max;
  passed : (j : ℕ) → l.n < j → j ≤ l.stop → j ≤ l.number.max → list_any (lists l.way j) l.number.calls ≡ true;
}

abbrev pub decreases-amounts : goal.decreases-amounts
decreases-amounts l = l.n
