use Rattle.std.proofs.Common.{length}
use Rattle.pair_needs.specs.LedPairs.{AreListed, is_lacking}
use Rattle.pair_needs.proofs.mends.list_row.Given as goal

abbrev pub invariant-loop-b : goal.invariant-loop-b
invariant-loop-b l = AreListed (is_lacking l.led.seen l.relation) (length l.relation) l.a l.b l.lacking.items
