-- The first ones are behind those that there were.
use Rattle.std.proofs.Common.{◌≡◌, take}
use Rattle.sqlite_trees.specs.Tree.{Trees}
use Rattle.sqlite_trees.specs.View.{IsClean}
use Rattle.sqlite_trees.specs.declared.store.Shape.TheVariants.{Table}
use Rattle.journal.specs.Tables.{AreBehind}
use Rattle.journal.proofs.more_rows.append_each.Given as goal

abbrev pub invariant-loop-i : goal.invariant-loop-i
invariant-loop-i g l = record {
  behind : IsClean (g.S.Store.view l.store) → AreBehind g.E.Entry.row_at (g.S.Store.view l.fn.store) (g.S.Store.view l.store) l.table l.from (take l.i l.entries);
  shape : IsClean (g.S.Store.view l.store) → (g.S.Store.view l.store).shape l.table ≡ Table;
  clean : IsClean (g.S.Store.view l.store) → IsClean (g.S.Store.view l.fn.store);
  crash : (db : Trees) → g.S.Store.recovers l.store db → g.S.Store.recovers l.fn.store db;
}
