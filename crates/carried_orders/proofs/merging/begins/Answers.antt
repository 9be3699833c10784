use Rattle.std.proofs.Common.{[], ◌∷◌, ◌++◌, take, sym, ap, ◌∙◌, arith}
use Rattle.object_trait.specs.declared.event.EventKind.TheVariants.{Begin}
use Rattle.carried_runs.specs.Carried.{begins_from}
use Rattle.carried_runs.proofs.FirstEvents.{begins-next}
use Rattle.carried_orders.specs.Merging.{beginner_in}
use Rattle.carried_orders.proofs.merging.begins.Goals as goal

pub loop-i-preserved : goal.loop-i-preserved
loop-i-preserved c = record {
  room = omega (arith, c.loop-i.invariant.room, c.push_reserved.ensures.capacity);
  count = omega (arith, c.loop-i.invariant.count, c.push_reserved.ensures.len);
  exact =
      c.push_reserved.ensures.items
      ∙ ap (λ es. es ++ (record { worker = c.worker-worker.result; kind = Begin c.loop-i.i }) ∷ []) c.loop-i.invariant.exact
      ∙ ap (λ w. begins_from (beginner_in c.args.transactions.now.rows) 0 (take c.loop-i.i c.args.those.now) ++ (record { worker = w; kind = Begin c.loop-i.i }) ∷ []) c.worker-worker.ensures
      ∙ sym (begins-next (beginner_in c.args.transactions.now.rows) c.args.those.now c.loop-i.i (omega (arith, c.loop-i.auto.i-end, c.loop-i-test.true)));
}
