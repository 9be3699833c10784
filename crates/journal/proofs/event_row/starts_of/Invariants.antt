-- Where those of the rows so far begin, and those of the next one.
use Rattle.std.proofs.Common.{◌≡◌, length, take}
use Rattle.journal.specs.EventRow.{events_in_rows, row_starts}
use Rattle.journal.proofs.event_row.starts_of.Given as goal

abbrev pub invariant-loop-row : goal.invariant-loop-row
invariant-loop-row l = record {
  starts : l.starts.items ≡ row_starts 0 (take l.row-index l.rows);
  next : l.start ≡ length (events_in_rows (take l.row-index l.rows));
}
