use Rattle.key_commands.proofs.Marks.{kept_all, kept_more}
use Rattle.key_commands.proofs.endings.undecided.Goals as goal

pub loop-one-preserved : goal.loop-one-preserved
loop-one-preserved c =
    kept_more c.in_ok-marks.marks.items c.deref.result.now c.args.prepared.now c.loop-one.one-index c.one-item.result _ _ c.loop-one-test.true c.deref.ensures.value c.one-item.is c.loop-one.invariant
    c.in_ok-keep_marked.ensures.marked c.in_ok-keep_marked.ensures.other

pub returns : goal.returns
returns c = kept_all c.in_ok-marks.marks.items c.args.happened.now c.args.prepared.now c.loop-one.one-index _ c.loop-one-test.false c.in_ok-marks.ensures c.loop-one.invariant
