use Rattle.history_text.specs.declared.event_line.EventLine.TheVariants.{Op}
use Rattle.history_text.proofs.PlainEvents.{op_plainly}
use Rattle.history_text.proofs.plain.keep_op.Goals as goal

pub returns-clause-items : goal.returns-clause-items
returns-clause-items c = record {
  entry = Op c.in_ok-w.w c.in_ok-t.t c.in_ok-x.x c.in_ok-k.k;
  says = λ size. op_plainly size c.in_ok-w.w c.in_ok-t.t c.in_ok-x.x c.in_ok-k.k c.args.rest.now c.in_ok-w.rest.now c.in_ok-t.rest.now c.in_ok-x.rest.now c.in_ok-k.behind.now c.in_ok-w.ensures c.in_ok-t.ensures c.in_ok-x.ensures c.in_ok-k.ensures;
  in_range = c.in_ok-keep.ensures.items.0;
  kept = c.in_ok-keep.ensures.items.1;
}
