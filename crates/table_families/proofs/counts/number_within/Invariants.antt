use Rattle.table_families.specs.Counts.{AreNumbers}
use Rattle.table_families.proofs.counts.number_within.Given as goal

-- the numbers are those of the counts so far
abbrev pub invariant-loop-counts : goal.invariant-loop-counts
invariant-loop-counts l = AreNumbers l._counts l.numbers
