use Rattle.type_text.proofs.Twins.{ops_more}
use Rattle.type_text.proofs.build.ops_of.Goals as goal

pub loop-line-preserved : goal.loop-line-preserved
loop-line-preserved c =
    ops_more c.args.lines.now c.loop-line.line-index c.line-item.result c.loop-line.ops.keys c.number_op.new.ops.keys c.loop-line-test.true c.line-item.is
    (c.requires.ops_differ c.loop-line.line-index) c.in_ok-number_op.ensures c.loop-line.invariant.0 c.loop-line.invariant.1
