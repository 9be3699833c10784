-- The events from this place on were taken.
use Rattle.std.proofs.Common.{◌≡◌, ◌≤◌, length}
use Rattle.history_audit.specs.Dates.{AreDatesFrom}
use Rattle.history_audit.proofs.dates.dates_of.Given as goal

abbrev pub invariant-events : goal.invariant-events
invariant-events l = record {
  inside : l.at ≤ length l.events;
  long : length l.last.dates.items ≡ l.above;
  taken : AreDatesFrom l.at l.events l.last;
}

abbrev pub decreases-events : goal.decreases-events
decreases-events l = l.at
