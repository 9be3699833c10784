-- The numbers so far.
use Rattle.std.proofs.Common.{◌≡◌, ◌≤◌, length, take, vec_capacity, vec_len}
use Rattle.store.proofs.held_objects.numbers_of.Given as goal

abbrev pub invariant-loop-x : goal.invariant-loop-x
invariant-loop-x l = record {
  room : length l.places ≤ vec_capacity l.numbers;
  count : vec_len l.numbers ≡ l.x-index;
  exact : l.numbers.items ≡ take l.x-index l.places;
}
