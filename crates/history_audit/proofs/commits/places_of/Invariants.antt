-- The places are those of the first transactions.
use Rattle.std.proofs.Common.{◌≡◌, length, take}
use Rattle.history_audit.specs.Commits.{AreIndexes, numbers}
use Rattle.history_audit.proofs.commits.places_of.Given as goal

abbrev pub invariant-loop-place : goal.invariant-loop-place
invariant-loop-place l = record {
  long : length l.places.items ≡ l.above;
  places : AreIndexes (take l.place (numbers l.commits)) l.places.items;
}
