use Rattle.std.proofs.Common.{◌∙◌, ap, refl}
use Rattle.serial_order.specs.Operations.{is_among}
use Rattle.event_text.specs.EventText.{events_of_kinds}
use Rattle.key_commands.specs.OpenObjects.{objects_in}
use Rattle.key_commands.proofs.Told.{held_objects, told_all, told_more}
use Rattle.key_commands.proofs.held_transactions.held_transactions.Goals as goal

pub loop-one-preserved : goal.loop-one-preserved
loop-one-preserved c =
    let H = events_of_kinds c.args.happened.now in
    let t = c.one-item.result.number in
    let row = c.row_of.ensures ∙ ap (λ rows. objects_in rows t) c.deref.ensures.value ∙ c.in_ok-rows.ensures t in
    let held = held_objects H t c.in_ok-objects.objects.items c.in_ok-objects.ensures.ascend (λ x. c.in_ok-objects.ensures.same x ∙ ap (λ xs. is_among xs x) row) in
    told_more H c.args.prepared.now c.loop-one.one-index c.one-item.result c.loop-one.told.items _ _ c.loop-one-test.true c.one-item.is refl held c.in_ok-push.ensures.items c.loop-one.invariant

pub returns : goal.returns
returns c = told_all (events_of_kinds c.args.happened.now) c.args.prepared.now c.loop-one.one-index c.loop-one.told.items c.loop-one-test.false c.loop-one.invariant
