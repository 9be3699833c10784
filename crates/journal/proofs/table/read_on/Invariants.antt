use Rattle.std.proofs.Common.{◌≡◌, ◌+◌, ◌≤◌, ◌++◌, List, Some, IsSome, length}
use Rattle.sqlite_value.specs.Order.{Row}
use Rattle.sqlite_trees.specs.Tree.{Trees}
use Rattle.sqlite_trees.specs.View.{IsClean}
use Rattle.journal.specs.Rows.{value_rows}
use Rattle.journal.specs.Tables.{OnlyReads}
use Rattle.journal.proofs.table.read_on.Given as goal

abbrev pub invariant-loop-position : goal.invariant-loop-position
invariant-loop-position g l = record {
  many : l.from + length l.entries.items ≡ l.position;
  short : length l.entries.items ≤ l.count;
  left : IsClean (g.S.Store.view l.store) → (left : List Row) × ((g.S.Store.view l.store).cursors 0 ≡ Some left)
      × ((g.S.Store.view l.fn.store).cursors 0 ≡ Some (value_rows g.E.Entry.row_at l.from l.entries.items ++ left));
  live : IsSome ((g.S.Store.view l.store).cursors 0);
  same : IsClean (g.S.Store.view l.store) → OnlyReads (g.S.Store.view l.fn.store) (g.S.Store.view l.store);
  clean : IsClean (g.S.Store.view l.store) → IsClean (g.S.Store.view l.fn.store);
  crash : (db : Trees) → g.S.Store.recovers l.store db → g.S.Store.recovers l.fn.store db;
}
