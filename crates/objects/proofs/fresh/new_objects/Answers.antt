use Rattle.std.proofs.Common.{◌≡◌, ◌+◌, [], ◌∷◌, ◌++◌, map, take, sym, ap, ◌∙◌, arith}
use Rattle.std.specs.Arc.{arc_value}
use Rattle.std.proofs.lemmas.List.{take_more, map_push}
use Rattle.objects.proofs.NewObjects.{objects_new, objects_types}
use Rattle.objects.proofs.fresh.new_objects.Goals as goal

pub loop-checked-preserved : goal.loop-checked-preserved
loop-checked-preserved c =
    let types = c.args.types.now in
    let i = c.loop-checked.checked-index in
    let item = c.checked-item.result in
    let more : take (i + 1) types ≡ take i types ++ item ∷ [] =
    take_more types i item (omega (arith, c.loop-checked-test.true)) ∙ ap (λ x. take i types ++ x ∷ []) (sym c.checked-item.is) in
    record {
      room = omega (arith, c.loop-checked.invariant.room, c.push_reserved.ensures.capacity);
      count = omega (arith, c.loop-checked.invariant.count, c.push_reserved.ensures.len);
      fresh = objects_new c.loop-checked.objects.items c.push_reserved.new.self.items c.new.result c.push_reserved.ensures.items c.loop-checked.invariant.fresh c.new.ensures.fresh;
      types =
          objects_types c.loop-checked.objects.items c.push_reserved.new.self.items c.new.result (map arc_value (take i types)) (arc_value item) c.push_reserved.ensures.items
          c.loop-checked.invariant.types (c.new.ensures.checked ∙ c.in_ok-clone.ensures.cases)
          ∙ sym (map_push arc_value (take i types) item) ∙ sym (ap (λ xs. map arc_value xs) more);
    }
