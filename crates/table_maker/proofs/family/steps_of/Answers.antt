use Rattle.std.proofs.Common.{◌≡◌, ◌/◌, ◌%◌, length, refl}
use Rattle.table_maker.specs.Made.{Family}
use Rattle.table_maker.proofs.Entries.{entries_more}
use Rattle.table_maker.proofs.family.steps_of.Goals as goal

pub loop-place-preserved : goal.loop-place-preserved
loop-place-preserved g c =
    let f : Family = g.F.FamilyRules.family c.args.rules.now in
    let entry : c.step.result ≡ f.step (c.loop-place.place / length f.ops) (c.loop-place.place % length f.ops) = rw (← c.requires.ops) c.step.ensures in
    rw (c.in_ok-push.ensures.items, c.loop-place.invariant, entry, entries_more f c.loop-place.place) refl
