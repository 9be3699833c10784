use Rattle.std.proofs.Common.{◌≡◌}
use Rattle.pair_needs.specs.LedPairs.{AreGathered, HasEnds}
use Rattle.pair_needs.proofs.mends.LedPairs.first.Given as goal

abbrev pub invariant-loop-place : goal.invariant-loop-place
invariant-loop-place l = record {
  gathered : AreGathered l.table 0 0 l.led;
  ends : HasEnds l.table l.fn.pair l.leads l.place l.led;
  same : l.led.pair ≡ l.fn.pair;
}
