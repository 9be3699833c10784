use Rattle.std.proofs.Common.{◌≡◌, length}
use Rattle.pair_needs.specs.LedPairs.{AreGathered, HasEnds}
use Rattle.pair_needs.proofs.mends.LedPairs.all.Given as goal

abbrev pub invariant-loop-place : goal.invariant-loop-place
invariant-loop-place l = record {
  gathered : AreGathered l.table l.place 0 l.led;
  ends : HasEnds l.table l.fn.pair l.leads (length l.leads) l.led;
  same : l.led.pair ≡ l.fn.pair;
}
