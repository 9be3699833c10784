use Rattle.history_text.specs.declared.event_line.EventLine.TheVariants.{Rollback}
use Rattle.history_text.proofs.PlainEvents.{rollback_plainly}
use Rattle.history_text.proofs.plain.keep_rollback.Goals as goal

pub returns-clause-items : goal.returns-clause-items
returns-clause-items c = record {
  entry = Rollback c.in_ok-w.w c.in_ok-t.t c.in_ok-n.n;
  says = λ size. rollback_plainly size c.in_ok-w.w c.in_ok-t.t c.in_ok-n.n c.args.rest.now c.in_ok-w.rest.now c.in_ok-t.rest.now c.in_ok-n.behind.now c.in_ok-w.ensures c.in_ok-t.ensures c.in_ok-n.ensures;
  in_range = c.in_ok-keep.ensures.items.0;
  kept = c.in_ok-keep.ensures.items.1;
}
