use Rattle.std.proofs.Common.{◌∙◌, ap, List, ◌++◌, get_or}
use Rattle.type_table.specs.declared.op.Op.{Op}
use Rattle.table_families.specs.Counter.{change_ops}
use Rattle.table_families.proofs.Pieces.{pieces-more}
use Rattle.table_families.proofs.counter.counter_ops.Goals as goal

pub loop-amount-preserved : goal.loop-amount-preserved
loop-amount-preserved c =
    let amounts = c.args.amounts.now in
    let i = c.loop-amount.amount-index in
    c.in_ok-push_changes.ensures ∙ (ap (λ (ops : List Op). ops ++ change_ops (get_or amounts i 0)) c.loop-amount.invariant ∙ pieces-more change_ops amounts i 0 c.loop-amount-test.true)
