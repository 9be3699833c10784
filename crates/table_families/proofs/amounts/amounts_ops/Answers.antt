use Rattle.std.proofs.Common.{◌∙◌, ap, List, ◌++◌, get_or}
use Rattle.type_table.specs.declared.op.Op.{Op}
use Rattle.table_families.specs.Amounts.{amount_ops}
use Rattle.table_families.proofs.Pieces.{pieces-more}
use Rattle.table_families.proofs.amounts.amounts_ops.Goals as goal

pub loop-amount-preserved : goal.loop-amount-preserved
loop-amount-preserved c =
    let amounts = c.args.amounts.now in
    let i = c.loop-amount.amount-index in
    let four = amount_ops c.args.put.now c.args.taken.now in
    c.in_ok-push_amount.ensures ∙ (ap (λ (ops : List Op). ops ++ four (get_or amounts i 0)) c.loop-amount.invariant ∙ pieces-more four amounts i 0 c.loop-amount-test.true)
