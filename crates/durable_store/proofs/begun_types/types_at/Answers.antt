use Rattle.std.proofs.Common.{◌∙◌, [], ◌∷◌, ap, length, map, arith}
use Rattle.std.specs.Arc.{arc_value}
use Rattle.std.proofs.lemmas.List.{length-append}
use Rattle.durable_store.proofs.Begun.{at-more}
use Rattle.durable_store.proofs.begun_types.types_at.Goals as goal

pub loop-x-preserved : goal.loop-x-preserved
loop-x-preserved c =
    let long = ap length c.in_ok-push.ensures.items ∙ length-append c.loop-x.begun.items (c.in_ok-at.at ∷ []) in
    record {
      count = omega (arith, long, c.loop-x.invariant.count);
      known = at-more (map arc_value c.args.types.now) c.args.states.now c.loop-x.begun.items c.push.new.self.items c.loop-x.x c.in_ok-at.at c.loop-x.invariant.count c.loop-x.invariant.known
          c.in_ok-at.ensures.at c.in_ok-push.ensures.items;
    }
