-- The transactions so far are told with their objects.
use Rattle.std.proofs.Common.{◌≡◌, ◌≤◌, length, take, vec_capacity}
use Rattle.serving.specs.HeldTransactions.{IsToldHeld}
use Rattle.serving.specs.Several.{InTurn}
use Rattle.serving.proofs.held_transactions.held_transactions.Given as goal

abbrev pub invariant-loop-at : goal.invariant-loop-at
invariant-loop-at l = record {
  held : InTurn (IsToldHeld l.store) (take l.at l.prepared) l.told.items;
  many : length l.told.items ≡ l.at;
  room : length l.prepared ≤ vec_capacity l.told;
}
