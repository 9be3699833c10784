-- Those that aren't at their ends are in the list. A turn takes one from those that a worker has left, or takes a worker out of the list.
use Rattle.std.proofs.Common.{◌≡◌, ◌+◌, ◌≤◌, vec_len}
use Rattle.workers.specs.SharedCalls.{AreGoing, left_in}
use Rattle.workers.proofs.drawn.draw_turns.Given as goal

abbrev pub invariant-loop-words : goal.invariant-loop-words
invariant-loop-words g l = record {
  going : AreGoing l.shared l.going.items;
  few : vec_len l.going ≤ 16;
  let_in : l.shared.let_in ≡ l.fn.shared.let_in;
}

abbrev pub decreases-loop-words : goal.decreases-loop-words
decreases-loop-words g l = left_in l.shared.workers + vec_len l.going
