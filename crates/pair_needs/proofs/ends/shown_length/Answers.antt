use Rattle.std.proofs.Common.{◌∙◌}
use Rattle.pair_needs.proofs.Parting.{commutes-unasked, least-illegal, least-shown, least-unheld, least-ends}
use Rattle.pair_needs.proofs.ends.shown_length.Goals as goal

pub returns-in_err-ends : goal.returns-in_err-ends
returns-in_err-ends c = rw c.from_residual.ensures (commutes-unasked c.args.table.now c.args.pair.p c.args.pair.q c.args.s c.args.pair.kind c.in_err-ends.ensures)

pub returns-in_default : goal.returns-in_default
returns-in_default c =
    let ends = c.in_ok-ends.ensures in
    least-shown c.args.table.now c.args.pair.p c.args.pair.q c.args.s c.args.pair.kind c.in_ok-ends.ends.held_first _ 0 ends.asked ends.held_first
    (ends.requested_first ∙ c.in_default.is) (least-illegal c.args.pair.kind c.args.table.now c.in_ok-ends.ends.held_first)

pub returns-in_default-held_first : goal.returns-in_default-held_first
returns-in_default-held_first c =
    let ends = c.in_ok-ends.ensures in
    least-unheld c.args.table.now c.args.pair.p c.args.pair.q c.args.s c.args.pair.kind c.in-Some.requested ends.asked
    (ends.held_first ∙ c.in_default-held_first.is) (ends.requested_first ∙ c.in-Some.is)

pub returns : goal.returns
returns c =
    let ends = c.in_ok-ends.ensures in
    least-ends c.args.table.now c.args.pair.p c.args.pair.q c.args.s c.args.pair.kind c.in-Some-held_first.held c.in-Some.requested c.told_length.result ends.asked
    (ends.held_first ∙ c.in-Some-held_first.is) (ends.requested_first ∙ c.in-Some.is) c.told_length.ensures
