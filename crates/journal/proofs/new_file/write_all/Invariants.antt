use Rattle.std.proofs.Common.{◌≡◌, IsTrue}
use Rattle.sqlite_trees.specs.Tree.{Trees}
use Rattle.sqlite_trees.specs.View.{IsClean}
use Rattle.sqlite_trees.specs.declared.store.Shape.TheVariants.{Table}
use Rattle.journal.proofs.new_file.write_all.Given as goal

abbrev pub invariant-loop-position : goal.invariant-loop-position
invariant-loop-position g l = record {
  shape : (g.S.Store.view l.store).shape l.table ≡ Table;
  numbered : IsClean (g.S.Store.view l.store) → IsTrue (g.S.Store.view l.store).is_numbered;
  clean : IsClean (g.S.Store.view l.store) → IsClean (g.S.Store.view l.fn.store);
  crash : (db : Trees) → g.S.Store.recovers l.store db → g.S.Store.recovers l.fn.store db;
}
