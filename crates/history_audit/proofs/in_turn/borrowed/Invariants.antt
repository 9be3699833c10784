-- The first types were borrowed.
use Rattle.std.proofs.Common.{◌≡◌, ◌≤◌, length, map, take, vec_capacity, vec_len}
use Rattle.history_audit.proofs.in_turn.borrowed.Given as goal

abbrev pub invariant-loop-declared : goal.invariant-loop-declared
invariant-loop-declared l = record {
  room : length l.types ≤ vec_capacity l.them;
  count : vec_len l.them ≡ l.declared-index;
  are : map (λ t. t.now) l.them.items ≡ take l.declared-index l.types;
}
