-- Those so far.
use Rattle.std.proofs.Common.{◌≡◌, ◌≤◌, length, map, take, vec_capacity, vec_len}
use Rattle.serving.specs.Names.{carried_as}
use Rattle.serving.proofs.names.Names.carried_over.Given as goal

abbrev pub invariant-loop-place : goal.invariant-loop-place
invariant-loop-place l = record {
  room : length l.those ≤ vec_capacity l.carried;
  count : vec_len l.carried ≡ l.place;
  exact : l.carried.items ≡ map (carried_as l.self l.those) (take l.place l.those);
}
