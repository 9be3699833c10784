use Rattle.std.proofs.Common.{IsTrue}
use Rattle.sqlite_trees.specs.Tree.{Trees}
use Rattle.sqlite_trees.specs.View.{IsClean}
use Rattle.journal.proofs.new_file.make_tables.Given as goal

abbrev pub invariant-loop-tree : goal.invariant-loop-tree
invariant-loop-tree g l = record {
  numbered : IsClean (g.S.Store.view l.store) → IsTrue (g.S.Store.view l.store).is_numbered;
  clean : IsClean (g.S.Store.view l.store) → IsClean (g.S.Store.view l.fn.store);
  crash : (db : Trees) → g.S.Store.recovers l.store db → g.S.Store.recovers l.fn.store db;
}
