use Rattle.std.proofs.Common.{length, refl, ◌∙◌}
use Rattle.std.proofs.lemmas.Option.{slice_get_read}
use Rattle.history_text.proofs.Sizes.{places_next, greater}
use Rattle.history_text.proofs.size.places_of.Goals as goal

pub loop-object-preserved : goal.loop-object-preserved
loop-object-preserved c =
    let objects = c.args.objects.now in
    let o = c.object-item.result in
    let there = slice_get_read objects (length objects) c.loop-object.object-index o refl c.loop-object-test.true c.object-item.is in
    places_next objects c.loop-object.object-index o c.loop-object.most c.max-most.result there c.loop-object.invariant (c.max-most.ensures ∙ greater c.loop-object.most _)
