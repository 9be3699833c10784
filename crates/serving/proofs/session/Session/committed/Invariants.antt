-- The objects so far have a state each.
use Rattle.std.proofs.Common.{◌≡◌, ◌≤◌, length, take, vec_capacity}
use Rattle.journal.specs.Journal.{Clean, written}
use Rattle.serving.specs.Several.{InTurn, IsStateThere}
use Rattle.serving.proofs.session.Session.committed.Given as goal

abbrev pub invariant-loop-at : goal.invariant-loop-at
invariant-loop-at g l = record {
  seen : InTurn (IsStateThere (Clean g.S.Store l.self.store.journal) (written g.S.Store l.self.store.journal).objects l.self.store.store) (take l.at l.objects) l.states.items;
  many : length l.states.items ≡ l.at;
  room : length l.objects ≤ vec_capacity l.states;
}
