use Rattle.history_text.specs.declared.event_line.EventLine.TheVariants.{Begin}
use Rattle.history_text.proofs.PlainEvents.{begin_plainly}
use Rattle.history_text.proofs.plain.keep_begin.Goals as goal

pub returns-clause-items : goal.returns-clause-items
returns-clause-items c = record {
  entry = Begin c.in_ok-w.w c.in_ok-t.t;
  says = λ size. begin_plainly size c.in_ok-w.w c.in_ok-t.t c.args.rest.now c.in_ok-w.rest.now c.in_ok-t.behind.now c.in_ok-w.ensures c.in_ok-t.ensures;
  in_range = c.in_ok-keep.ensures.items.0;
  kept = c.in_ok-keep.ensures.items.1;
}
