use Rattle.std.proofs.Common.{length}
use Rattle.pair_needs.specs.LedPairs.{AreListed, is_lacking}
use Rattle.pair_needs.proofs.mends.lacking_pairs.Given as goal

abbrev pub invariant-loop-a : goal.invariant-loop-a
invariant-loop-a l = AreListed (is_lacking l.led.seen l.file.relation) (length l.file.relation) l.a 0 l.lacking.items
