-- The numbers so far.
use Rattle.std.proofs.Common.{◌≡◌, ◌≤◌, length, take, vec_capacity, vec_len}
use Rattle.durable_store.specs.Held.{prepared_numbers}
use Rattle.durable_store.proofs.held_list.numbers_of.Given as goal

abbrev pub invariant-loop-p : goal.invariant-loop-p
invariant-loop-p l = record {
  room : length l.prepared ≤ vec_capacity l.those;
  count : vec_len l.those ≡ l.p-index;
  exact : l.those.items ≡ prepared_numbers (take l.p-index l.prepared);
}
