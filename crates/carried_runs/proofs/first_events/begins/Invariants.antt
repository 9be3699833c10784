use Rattle.std.proofs.Common.{◌≡◌, ◌≤◌, length, take, vec_capacity, vec_len}
use Rattle.carried_runs.specs.Carried.{begins_from}
use Rattle.carried_runs.proofs.first_events.begins.Given as goal

abbrev pub invariant-loop-t : goal.invariant-loop-t
invariant-loop-t l = record {
  room : length l.those ≤ vec_capacity l.events;
  count : vec_len l.events ≡ l.t;
  exact : l.events.items ≡ begins_from (λ _. l.w) 0 (take l.t l.those);
}
