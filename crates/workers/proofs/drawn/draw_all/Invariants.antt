-- As many were let in as turns of the loop were made.
use Rattle.std.proofs.Common.{◌≡◌, length}
use Rattle.workers.proofs.drawn.draw_all.Given as goal

abbrev pub invariant-loop : goal.invariant-loop
invariant-loop g l = record {
  let_in : l.shared.let_in ≡ l.counter;
  as_many : length l.shared.workers ≡ length l.fn.shared.workers;
  until : l.end ≡ length l.fn.shared.workers;
}
