use Rattle.escrow_manager.proofs.Totalling.{totals-more}
use Rattle.escrow_manager.proofs.totals.Totals.of.Goals as goal

pub loop-open-preserved : goal.loop-open-preserved
loop-open-preserved c =
    totals-more c.args.top c.deref-open-items.result.now c.args.marks.now.items c.loop-open.open-index _ c.loop-open.totals c.with-totals.result c.unmarked.result
    c.deref-open-items.ensures.value c.loop-open-test.true c.loop-open.invariant c.unmarked.ensures c.with-totals.ensures
