use Rattle.std.proofs.Common.{Err, subst}
use Rattle.object_trait.specs.declared.event.EventKind.{EventKind}
use Rattle.outputs.specs.Out.{Puts}
use Rattle.outputs.proofs.Turns.{Puts-exit_at}
use Rattle.serving.specs.AnswerText.{event_text}
use Rattle.serving.proofs.answer_text.put_event_lines.Goals as goal

pub returns-in_err-put_event : goal.returns-in_err-put_event
returns-in_err-put_event g c =
    let stop = subst (λ (kind : EventKind). Puts (g.W.Out.taken c.loop-kind.out) (g.W.Out.taken c.put_event.new.out) (g.W.Out.fault c.put_event.new.out) (event_text c.args.tag.now kind) (Err c.in_err-put_event.field-0.0))
    c.kind-item.is c.in_err-put_event.ensures in
    Puts-exit_at c.items_in_turn.ensures (event_text c.args.tag.now) c.args.events.now c.loop-kind.kind-index c.kind-item.result c.loop-kind-test.true c.loop-kind.invariant stop c.from_residual.ensures.1
