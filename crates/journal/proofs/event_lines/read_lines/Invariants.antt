-- The cursor has the rows left that weren't read, and the lines are those of the others.
use Rattle.std.proofs.Common.{◌≡◌, List, Some, IsSome, drop, map, take}
use Rattle.sqlite_trees.specs.Tree.{Trees}
use Rattle.sqlite_trees.specs.View.{IsClean}
use Rattle.event_text.specs.EventText.{event_lines}
use Rattle.journal.specs.declared.event_row.EventRow.{EventRow}
use Rattle.journal.specs.EventRow.{event_row, event_told, events_in_rows}
use Rattle.journal.specs.Rows.{value_rows}
use Rattle.journal.specs.Tables.{OnlyReads}
use Rattle.journal.proofs.event_lines.read_lines.Given as goal

abbrev pub invariant-loop-position : goal.invariant-loop-position
invariant-loop-position g l =
    let rows : List EventRow = map event_told ((g.S.Store.view l.fn.store).trees 0) in
    record {
      left : IsClean (g.S.Store.view l.store) → (g.S.Store.view l.store).cursors 0 ≡ Some (value_rows event_row l.position (drop l.position rows));
      lines : IsClean (g.S.Store.view l.store) → l.lines.items ≡ event_lines (events_in_rows (take l.position rows));
      live : IsSome ((g.S.Store.view l.store).cursors 0);
      same : IsClean (g.S.Store.view l.store) → OnlyReads (g.S.Store.view l.fn.store) (g.S.Store.view l.store);
      clean : IsClean (g.S.Store.view l.store) → IsClean (g.S.Store.view l.fn.store);
      crash : (db : Trees) → g.S.Store.recovers l.store db → g.S.Store.recovers l.fn.store db;
    }
