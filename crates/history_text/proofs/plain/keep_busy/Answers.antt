use Rattle.history_text.specs.declared.event_line.EventLine.TheVariants.{Busy}
use Rattle.history_text.proofs.PlainEvents.{busy_plainly}
use Rattle.history_text.proofs.plain.keep_busy.Goals as goal

pub returns-clause-items : goal.returns-clause-items
returns-clause-items c = record {
  entry = Busy c.in_ok-w.w c.in_ok-t.t c.in_ok-x.x c.in_ok-c.c c.in_ok-u.u;
  says = λ size. busy_plainly size c.in_ok-w.w c.in_ok-t.t c.in_ok-x.x c.in_ok-c.c c.in_ok-u.u c.args.rest.now c.in_ok-w.rest.now c.in_ok-t.rest.now c.in_ok-x.rest.now c.in_ok-c.rest.now c.in_ok-u.behind.now c.in_ok-w.ensures c.in_ok-t.ensures c.in_ok-x.ensures c.in_ok-c.ensures c.in_ok-u.ensures;
  in_range = c.in_ok-keep.ensures.items.0;
  kept = c.in_ok-keep.ensures.items.1;
}
