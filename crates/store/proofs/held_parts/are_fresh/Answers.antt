use Rattle.std.proofs.Common.{◌≤◌, map, length, refl, sym, ap, subst, ◌∙◌, arith}
use Rattle.std.proofs.lemmas.Bool.{false≢true}
use Rattle.std.proofs.lemmas.List.{length-map}
use Rattle.type_table.proofs.Elements.{first-more}
use Rattle.object_trait.specs.Steps.{IsFresh}
use Rattle.store.proofs.Beginnings.{image-in, first-all, first-fails}
use Rattle.store.proofs.held_parts.are_fresh.Goals as goal

pub returns-then-not-is_fresh : goal.returns-then-not-is_fresh
returns-then-not-is_fresh g c =
    let items = c.args.objects.now.items in
    let meaning = g.R.Recovery.meaning in
    let there = image-in meaning items c.deref-object-items.result.now c.loop-object.object-index c.object-item.result c.deref-object-items.ensures.value c.loop-object-test.true c.object-item.is in (
      λ wrong. absurd (false≢true wrong),
      first-fails IsFresh (map meaning items) c.loop-object.object-index (meaning c.object-item.result) c.is_fresh.result there c.is_fresh.ensures.1 c.if-not-is_fresh.true,
    )

pub loop-object-preserved : goal.loop-object-preserved
loop-object-preserved g c =
    let items = c.args.objects.now.items in
    let meaning = g.R.Recovery.meaning in
    let there = image-in meaning items c.deref-object-items.result.now c.loop-object.object-index c.object-item.result c.deref-object-items.ensures.value c.loop-object-test.true c.object-item.is in
    first-more IsFresh (map meaning items) c.loop-object.object-index (meaning c.object-item.result) c.loop-object.invariant there (c.is_fresh.ensures.0 c.if-not-is_fresh.false)

pub returns : goal.returns
returns g c =
    let items = c.args.objects.now.items in
    let meaning = g.R.Recovery.meaning in
    let past : length c.deref-object-items.result.now ≤ c.loop-object.object-index = omega arith in
    let all : length (map meaning items) ≤ c.loop-object.object-index = subst (λ n. n ≤ c.loop-object.object-index) (ap length c.deref-object-items.ensures.value ∙ sym (length-map items meaning)) past in
    (λ _. first-all IsFresh (map meaning items) c.loop-object.object-index c.loop-object.invariant all, λ _. refl)
