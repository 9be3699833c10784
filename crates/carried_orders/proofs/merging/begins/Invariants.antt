use Rattle.std.proofs.Common.{◌≡◌, ◌≤◌, length, take, vec_capacity, vec_len}
use Rattle.carried_runs.specs.Carried.{begins_from}
use Rattle.carried_orders.specs.Merging.{beginner_in}
use Rattle.carried_orders.proofs.merging.begins.Given as goal

abbrev pub invariant-loop-i : goal.invariant-loop-i
invariant-loop-i l = record {
  room : length l.those ≤ vec_capacity l.events;
  count : vec_len l.events ≡ l.i;
  exact : l.events.items ≡ begins_from (beginner_in l.transactions.rows) 0 (take l.i l.those);
}
