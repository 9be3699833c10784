-- Each worker below this one that isn't at its end is in the list, which has no more than these.
use Rattle.std.proofs.Common.{◌≡◌, ℕ, ◌<◌, ◌≤◌, ◌⊎◌, vec_len, vec_capacity}
use Rattle.std.specs.List.{Contains}
use Rattle.workers.specs.SharedState.{HasEnded}
use Rattle.workers.proofs.shared.Shared.put_going.Given as goal

abbrev pub invariant-loop-w : goal.invariant-loop-w
invariant-loop-w g l = record {
  so_far : (v : ℕ) → v < l.w → HasEnded l.self v ⊎ Contains l.going.items v;
  count : vec_len l.going ≤ l.w;
  room : 16 ≤ vec_capacity l.going;
  until : l.w-end ≡ l.self.let_in;
  few : l.w-end ≤ 16;
}
