-- The first types were copied.
use Rattle.std.proofs.Common.{◌≡◌, ◌≤◌, length, map, take, vec_capacity, vec_len}
use Rattle.history_audit.proofs.in_turn.copies.Given as goal

abbrev pub invariant-loop-declared : goal.invariant-loop-declared
invariant-loop-declared l = record {
  room : length l.types ≤ vec_capacity l.own;
  count : vec_len l.own ≡ l.declared-index;
  are : l.own.items ≡ map (λ t. t.now) (take l.declared-index l.types);
}
