use Rattle.std.proofs.Common.{◌≡◌, ◌≤◌, length}
use Rattle.pair_needs.specs.LedPairs.{AreGathered, KeepsPairs}
use Rattle.pair_needs.proofs.mends.LedPairs.go_on.Given as goal

abbrev pub invariant-loop-k : goal.invariant-loop-k
invariant-loop-k l = record {
  gathered : AreGathered l.table l.place l.k l.self;
  kept : KeepsPairs l.initial.self l.self;
  more : length l.initial.self.found.items ≤ length l.self.found.items;
  same : l.self.pair ≡ l.initial.self.pair;
}
