-- The workers below this one are at their ends.
use Rattle.std.proofs.Common.{◌≡◌, ℕ, ◌<◌, length}
use Rattle.workers.specs.SharedState.{HasEnded}
use Rattle.workers.proofs.shared.Shared.finish_all.Given as goal

abbrev pub invariant-loop-w : goal.invariant-loop-w
invariant-loop-w g l = record {
  ended : (v : ℕ) → v < l.w → HasEnded l.self v;
  until : l.w-end ≡ l.self.let_in;
  let_in : l.self.let_in ≡ l.fn.self.let_in;
  as_many : length l.self.workers ≡ length l.fn.self.workers;
}
