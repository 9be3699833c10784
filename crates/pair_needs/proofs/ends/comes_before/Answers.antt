use Rattle.std.proofs.Common.{sym, ◌∙◌}
use Rattle.pair_needs.proofs.Order.{before-past, before-end, before-on, before-here}
use Rattle.pair_needs.proofs.ends.comes_before.Goals as goal

pub returns-then-place-v : goal.returns-then-place-v
returns-then-place-v c = sym (c.loop-place.invariant ∙ before-past c.args.v.now c.args.w.now c.loop-place.place c.if-place-v.true c.loop-place-test.true)

pub returns-then-v-place : goal.returns-then-v-place
returns-then-v-place c =
    sym (c.loop-place.invariant ∙ before-here c.args.v.now c.args.w.now c.loop-place.place c.if-place-v.false c.loop-place-test.true c.if-v-place.true)

pub loop-place-preserved : goal.loop-place-preserved
loop-place-preserved c =
    c.loop-place.invariant ∙ before-on c.args.v.now c.args.w.now c.loop-place.place c.if-place-v.false c.loop-place-test.true c.if-v-place.false

pub returns : goal.returns
returns c = sym (c.loop-place.invariant ∙ before-end c.args.v.now c.args.w.now c.loop-place.place c.loop-place-test.false)
