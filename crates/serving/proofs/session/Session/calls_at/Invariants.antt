-- The calls so far are at the objects that their words say.
use Rattle.std.proofs.Common.{◌≡◌, ◌≤◌, length, take, vec_capacity}
use Rattle.journal.specs.Journal.{Clean, written}
use Rattle.attempts.specs.Commands.{asked_calls}
use Rattle.serving.specs.Several.{InTurn, IsCallAt}
use Rattle.serving.proofs.session.Session.calls_at.Given as goal

abbrev pub invariant-loop-at : goal.invariant-loop-at
invariant-loop-at g l = record {
  at : InTurn (IsCallAt (Clean g.S.Store l.self.store.journal) (written g.S.Store l.self.store.journal).objects) (take l.at l.calls) (asked_calls l.made.items);
  many : length l.made.items ≡ l.at;
  room : length l.calls ≤ vec_capacity l.made;
}
