use Rattle.sqlite_trees.specs.Tree.{Trees}
use Rattle.sqlite_trees.specs.View.{IsClean}
use Rattle.journal.proofs.Rewritten.{AreFirstNew}
use Rattle.journal.proofs.journal.rewrite_states.Given as goal

abbrev pub invariant-loop-x : goal.invariant-loop-x
invariant-loop-x g l = record {
  new : IsClean (g.S.Store.view l.store) → AreFirstNew (g.S.Store.view l.fn.store) (g.S.Store.view l.store) l.states l.x;
  clean : IsClean (g.S.Store.view l.store) → IsClean (g.S.Store.view l.fn.store);
  crash : (db : Trees) → g.S.Store.recovers l.store db → g.S.Store.recovers l.fn.store db;
}
