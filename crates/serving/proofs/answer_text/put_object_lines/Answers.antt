use Rattle.std.proofs.Common.{Err, subst}
use Rattle.outputs.specs.Out.{Puts}
use Rattle.outputs.proofs.Turns.{Puts-exit_at}
use Rattle.serving.specs.AnswerText.{object_answer}
use Rattle.serving.proofs.answer_text.put_object_lines.Goals as goal

pub returns-in_err-put_object : goal.returns-in_err-put_object
returns-in_err-put_object g c =
    let stop = subst (λ o. Puts (g.W.Out.taken c.loop-object.out) (g.W.Out.taken c.put_object.new.out) (g.W.Out.fault c.put_object.new.out) (object_answer c.args.tag.now o) (Err c.in_err-put_object.field-0.0)) c.object-item.is c.in_err-put_object.ensures in
    Puts-exit_at c.items_in_turn.ensures (object_answer c.args.tag.now) c.args.objects.now c.loop-object.object-index c.object-item.result c.loop-object-test.true c.loop-object.invariant stop c.from_residual.ensures.1
