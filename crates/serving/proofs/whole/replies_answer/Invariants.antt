-- The replies so far are told.
use Rattle.std.proofs.Common.{◌≡◌, ◌≤◌, Some, length, map, take, vec_capacity}
use Rattle.attempts.specs.Commands.{asked_calls}
use Rattle.serving.specs.Several.{replies_of}
use Rattle.serving.proofs.whole.replies_answer.Given as goal

abbrev pub invariant-loop-at : goal.invariant-loop-at
invariant-loop-at l = record {
  told : map Some l.replies.items ≡ take l.at (replies_of l.store (asked_calls l.calls) l.operations);
  many : length l.replies.items ≡ l.at;
  room : l.count ≤ vec_capacity l.replies;
}
