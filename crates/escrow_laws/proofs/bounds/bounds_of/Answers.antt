use Rattle.std.proofs.Common.{arith}
use Rattle.escrow_laws.proofs.Searching.{no-bounds, more-bounds, all-are, all-bounds}
use Rattle.escrow_laws.proofs.bounds.bounds_of.Goals as goal

pub loop-k-init : goal.loop-k-init
loop-k-init c = no-bounds c.args.table.now c.none-ops.result c.none-ops.ensures

pub loop-k-preserved : goal.loop-k-preserved
loop-k-preserved c =
    more-bounds c.args.table.now c.loop-k.ops c.push.new.self c.loop-k.k c.bounds_at.result c.push.ensures c.loop-k.invariant c.bounds_at.ensures

pub returns-clause-bounds : goal.returns-clause-bounds
returns-clause-bounds c = all-bounds c.steps_within.ensures c.args.table.now c.op_count-k-end.ensures.table c.loop-k.ops c.loop-k.k (omega arith) c.loop-k.invariant

pub returns-clause-exact : goal.returns-clause-exact
returns-clause-exact c = all-are c.args.table.now c.loop-k.ops c.loop-k.k (omega arith) c.loop-k.invariant
