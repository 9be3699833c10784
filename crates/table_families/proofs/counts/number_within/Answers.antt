use Rattle.table_families.proofs.Numbers.{AreNumbers-none, AreNumbers-small}
use Rattle.table_families.proofs.counts.number_within.Goals as goal

pub loop-counts-init : goal.loop-counts-init
loop-counts-init c = AreNumbers-none

pub add_up-requires : goal.add_up-requires
add_up-requires c = AreNumbers-small c.loop-counts._counts c.loop-counts.numbers c.loop-counts.invariant

pub loop-counts-preserved : goal.loop-counts-preserved
loop-counts-preserved c = c.add_up.ensures c.loop-counts._counts c.loop-counts.invariant
