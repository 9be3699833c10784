-- Those so far.
use Rattle.std.proofs.Common.{◌≡◌, ◌≤◌, length, map, take, vec_capacity, vec_len}
use Rattle.serving.specs.Names.{carried_given}
use Rattle.serving.proofs.names.all_given.Given as goal

abbrev pub invariant-loop-p : goal.invariant-loop-p
invariant-loop-p l = record {
  room : length l.prepared ≤ vec_capacity l.carried;
  count : vec_len l.carried ≡ l.p-index;
  exact : l.carried.items ≡ map carried_given (take l.p-index l.prepared);
}
