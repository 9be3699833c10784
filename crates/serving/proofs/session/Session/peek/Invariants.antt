-- The calls so far have a reply each.
use Rattle.std.proofs.Common.{◌≡◌, ◌≤◌, length, take, vec_capacity}
use Rattle.journal.specs.Journal.{Clean, written}
use Rattle.serving.specs.Several.{AreSeen}
use Rattle.serving.proofs.session.Session.peek.Given as goal

abbrev pub invariant-loop-at : goal.invariant-loop-at
invariant-loop-at g l = record {
  seen : AreSeen (Clean g.S.Store l.self.store.journal) (written g.S.Store l.self.store.journal).objects l.self.store.store (take l.at l.calls) l.replies.items;
  many : length l.replies.items ≡ l.at;
  room : length l.calls ≤ vec_capacity l.replies;
}
