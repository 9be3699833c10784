use Rattle.std.proofs.Common.{◌≤◌, length, arith}
use Rattle.table_maker.proofs.FailingPairs.{failing_none, failing_more, failing_all}
use Rattle.table_maker.proofs.made_conflicts.made_conflicts.Goals as goal

pub loop-p-init : goal.loop-p-init
loop-p-init c = record {
  square = rw c.op_count-ops.ensures.exact at c.new-table.ensures.square;
  pairs = failing_none c.condition_of-condition.result c.args.file.now c.new-table.result c.new-table.ensures.none;
}

pub loop-p-preserved : goal.loop-p-preserved
loop-p-preserved c = record {
  square = c.add_failing.ensures.square;
  pairs = failing_more c.condition_of-condition.result c.args.file.now c.loop-p.p c.loop-p.table c.add_failing.new.table c.loop-p.invariant.pairs c.add_failing.ensures.pairs;
}

pub returns : goal.returns
returns c =
    let past : length c.args.file.now.table.ops ≤ c.loop-p.p = omega (arith, c.op_count-ops.ensures.exact) in
    rw c.condition_of-condition.ensures at
    (failing_all c.condition_of-condition.result c.args.file.now c.loop-p.p c.loop-p.table c.loop-p.invariant.square c.loop-p.invariant.pairs past)
