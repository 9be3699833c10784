use Rattle.history_text.specs.declared.event_line.EventLine.TheVariants.{Nothing}
use Rattle.history_text.proofs.PlainEvents.{nothing_plainly}
use Rattle.history_text.proofs.plain.keep_nothing.Goals as goal

pub returns-clause-items : goal.returns-clause-items
returns-clause-items c = record {
  entry = Nothing c.in_ok-w.w c.in_ok-t.t c.in_ok-x.x c.in_ok-c.c;
  says = λ size. nothing_plainly size c.in_ok-w.w c.in_ok-t.t c.in_ok-x.x c.in_ok-c.c c.args.rest.now c.in_ok-w.rest.now c.in_ok-t.rest.now c.in_ok-x.rest.now c.in_ok-c.behind.now c.in_ok-w.ensures c.in_ok-t.ensures c.in_ok-x.ensures c.in_ok-c.ensures;
  in_range = c.in_ok-keep.ensures.items.0;
  kept = c.in_ok-keep.ensures.items.1;
}
