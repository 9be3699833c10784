use Rattle.std.proofs.Common.{◌≡◌, ◌+◌, ◌≤◌, [], ◌∷◌, map, length, vec_capacity, sym, ap, subst, ◌∙◌, arith}
use Rattle.std.proofs.lemmas.List.{length-map, map-append}
use Rattle.object_trait.specs.Committed.{committed_of}
use Rattle.store.proofs.Beginnings.{image-in}
use Rattle.store.proofs.Renewals.{AreFirstRenewed, renewed-none, renewed-more, renewed-all}
use Rattle.store.proofs.renewed_objects.committed_objects.Goals as goal

pub loop-object-init : goal.loop-object-init
loop-object-init g c =
    let items = c.args.objects.now.items in
    let meaning = g.R.Recovery.meaning in
    let room : length (map meaning items) ≤ vec_capacity c.in_ok-renewed.renewed = omega (arith, length-map items meaning, c.in_ok-renewed.ensures.capacity, c.len.ensures, c.args.objects.now.ok.0) in
    subst (λ xs. AreFirstRenewed committed_of (map meaning items) (map meaning xs) (vec_capacity c.in_ok-renewed.renewed) 0) (sym c.in_ok-renewed.ensures.items)
    (renewed-none committed_of (map meaning items) (vec_capacity c.in_ok-renewed.renewed) room)

pub push_reserved-requires : goal.push_reserved-requires
push_reserved-requires g c =
    let items = c.args.objects.now.items in
    let meaning = g.R.Recovery.meaning in
    omega (
      arith,
      c.loop-object.invariant.as_many,
      c.loop-object.invariant.room,
      length-map c.loop-object.renewed.items meaning,
      length-map items meaning,
      c.loop-object-test.true,
      ap length c.deref-object-items.ensures.value,
      c.loop-object.renewed.ok.0,
    )

pub renewed_object-requires-after_bounds : goal.renewed_object-requires-after_bounds
renewed_object-requires-after_bounds g c κs within =
    let items = c.args.objects.now.items in
    let meaning = g.R.Recovery.meaning in
    let there = image-in meaning items c.deref-object-items.result.now c.loop-object.object-index c.object-item.result c.deref-object-items.ensures.value c.loop-object-test.true c.object-item.is in
    c.requires c.loop-object.object-index (meaning c.object-item.result) c.committed-state.result there c.committed-state.ensures.exact

pub loop-object-preserved : goal.loop-object-preserved
loop-object-preserved g c =
    let items = c.args.objects.now.items in
    let meaning = g.R.Recovery.meaning in
    let i = c.loop-object.object-index in
    let before = c.loop-object.renewed.items in
    let after = c.push_reserved.new.self.items in
    let one = c.in_ok-renewed_object.field-0 in
    let there = image-in meaning items c.deref-object-items.result.now i c.object-item.result c.deref-object-items.ensures.value c.loop-object-test.true c.object-item.is in
    subst (λ room. AreFirstRenewed committed_of (map meaning items) (map meaning after) room (i + 1)) (sym c.push_reserved.ensures.capacity)
    (renewed-more committed_of (map meaning items) (map meaning before) (map meaning after) (meaning one) (vec_capacity c.loop-object.renewed) i (meaning c.object-item.result) c.loop-object.invariant there
    (record { state = c.committed-state.result; is = c.committed-state.ensures.exact; renewed = c.in_ok-renewed_object.ensures }) (ap (map meaning) c.push_reserved.ensures.items ∙ map-append meaning before (one ∷ [])))

pub returns : goal.returns
returns g c =
    let items = c.args.objects.now.items in
    let meaning = g.R.Recovery.meaning in
    let all : c.loop-object.object-index ≡ length c.deref-object-items.result.now = omega arith in
    renewed-all committed_of (map meaning items) (map meaning c.loop-object.renewed.items) (vec_capacity c.loop-object.renewed) c.loop-object.object-index c.loop-object.invariant
    (all ∙ ap length c.deref-object-items.ensures.value ∙ sym (length-map items meaning))
