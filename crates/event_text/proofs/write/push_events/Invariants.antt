-- The lines of the events so far are behind the text.
use Rattle.std.proofs.Common.{◌≡◌, ◌++◌, take}
use Rattle.event_text.specs.EventText.{AreShort, event_lines}
use Rattle.event_text.proofs.write.push_events.Given as goal

abbrev pub invariant-loop-event : goal.invariant-loop-event
invariant-loop-event l = record {
  lines : l.text.items ≡ l.fn.text.items ++ event_lines (take l.event-index l.events);
  short : AreShort (take l.event-index l.events);
}
