use Rattle.std.proofs.Common.{[], ◌∷◌, ◌++◌, sym, ap, ◌∙◌, arith}
use Rattle.object_trait.specs.declared.event.EventKind.TheVariants.{Begin}
use Rattle.carried_runs.proofs.FirstEvents.{begins-next}
use Rattle.carried_runs.proofs.first_events.begins.Goals as goal

pub loop-t-preserved : goal.loop-t-preserved
loop-t-preserved c = record {
  room = omega (arith, c.loop-t.invariant.room, c.push_reserved.ensures.capacity);
  count = omega (arith, c.loop-t.invariant.count, c.push_reserved.ensures.len);
  exact =
      c.push_reserved.ensures.items
      ∙ ap (λ es. es ++ (record { worker = c.args.w; kind = Begin c.loop-t.t }) ∷ []) c.loop-t.invariant.exact
      ∙ sym (begins-next (λ _. c.args.w) c.args.those.now c.loop-t.t (omega (arith, c.loop-t.auto.t-end, c.loop-t-test.true)));
}
