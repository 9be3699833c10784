-- The events of the rows so far.
use Rattle.std.proofs.Common.{◌≡◌, take}
use Rattle.event_text.specs.EventText.{AreShort}
use Rattle.journal.specs.EventRow.{events_in_rows}
use Rattle.journal.proofs.event_row.events_of.Given as goal

abbrev pub invariant-loop-row : goal.invariant-loop-row
invariant-loop-row l = record {
  events : l.events.items ≡ events_in_rows (take l.row-index l.rows);
  short : AreShort l.events.items;
}
