use Rattle.std.proofs.Common.{Err, subst}
use Rattle.outputs.specs.Out.{Puts}
use Rattle.history_text.specs.Canonical.{event_line}
use Rattle.history_text.proofs.Writing.{line_text, lines_exit}
use Rattle.history_text.proofs.write.write_events.Goals as goal

pub returns-in_err-write_event : goal.returns-in_err-write_event
returns-in_err-write_event g c =
    let stop = subst (λ e. Puts (g.W.Out.taken c.loop-event.out) (g.W.Out.taken c.write_event.new.out) (g.W.Out.fault c.write_event.new.out) (line_text (event_line e)) (Err c.in_err-write_event.field-0.0)) c.event-item.is c.in_err-write_event.ensures in
    lines_exit c.items_in_turn.ensures event_line c.args.events.now c.loop-event.event-index c.event-item.result c.loop-event-test.true c.loop-event.invariant stop c.from_residual.ensures.1
