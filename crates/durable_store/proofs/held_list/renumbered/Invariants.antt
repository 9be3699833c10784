-- Those so far.
use Rattle.std.proofs.Common.{◌≡◌, ◌≤◌, length, map, take, vec_capacity, vec_len}
use Rattle.durable_store.specs.Held.{moved_among}
use Rattle.durable_store.proofs.held_list.renumbered.Given as goal

abbrev pub invariant-loop-p : goal.invariant-loop-p
invariant-loop-p l = record {
  room : length l.prepared ≤ vec_capacity l.now;
  count : vec_len l.now ≡ l.p-index;
  exact : l.now.items ≡ map (moved_among l.those) (take l.p-index l.prepared);
}
