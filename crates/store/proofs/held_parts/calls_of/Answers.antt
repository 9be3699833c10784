use Rattle.std.proofs.Common.{◌≡◌, ◌+◌, map, length, vec_capacity, sym, ap, subst, ◌∙◌, arith}
use Rattle.std.proofs.lemmas.List.{length-map}
use Rattle.declared_types.specs.Declarations.{table_of}
use Rattle.object_calls.specs.Calls.{HoldsCalls}
use Rattle.store.proofs.Beginnings.{HasFirstCalls, image-in, calls-more, calls-all, calls-checked}
use Rattle.store.proofs.held_parts.calls_of.Goals as goal

pub loop-object-preserved : goal.loop-object-preserved
loop-object-preserved g c =
    let items = c.args.objects.now.items in
    let meaning = g.R.Recovery.meaning in
    let m = meaning c.object-item.result in
    let its = c.in_ok-shared.shared in
    let ms = map meaning items in
    let there = image-in meaning items c.deref-object-items.result.now c.loop-object.object-index c.object-item.result c.deref-object-items.ensures.value c.loop-object-test.true c.object-item.is in
    let held = subst (λ T. HoldsCalls T its) (ap (λ f. f.table) c.declared.ensures.exact) (subst (HoldsCalls (table_of c.declared.result.now)) (sym c.in_ok-shared.ensures) c.in_ok-its.ensures) in
    subst (λ room. HasFirstCalls ms c.push_reserved.new.self.items room (c.loop-object.object-index + 1)) (sym c.push_reserved.ensures.capacity)
    (calls-more ms c.loop-object.calls.items c.push_reserved.new.self.items its (vec_capacity c.loop-object.calls) c.loop-object.object-index m c.loop-object.invariant there
    c.declared.ensures.checked held c.push_reserved.ensures.items)

pub returns-clause-calls : goal.returns-clause-calls
returns-clause-calls g c =
    let items = c.args.objects.now.items in
    let meaning = g.R.Recovery.meaning in
    let all : c.loop-object.object-index ≡ length c.deref-object-items.result.now = omega arith in
    calls-all (map meaning items) c.loop-object.calls.items (vec_capacity c.loop-object.calls) c.loop-object.object-index c.loop-object.invariant
    (all ∙ ap length c.deref-object-items.ensures.value ∙ sym (length-map items meaning))

pub returns-clause-checked : goal.returns-clause-checked
returns-clause-checked g c =
    let items = c.args.objects.now.items in
    let meaning = g.R.Recovery.meaning in
    let all : c.loop-object.object-index ≡ length c.deref-object-items.result.now = omega arith in
    calls-checked (map meaning items) c.loop-object.calls.items (vec_capacity c.loop-object.calls) c.loop-object.object-index c.loop-object.invariant
    (all ∙ ap length c.deref-object-items.ensures.value ∙ sym (length-map items meaning))
