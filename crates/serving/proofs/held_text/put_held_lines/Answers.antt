use Rattle.std.proofs.Common.{Err, subst}
use Rattle.outputs.specs.Out.{Puts}
use Rattle.outputs.proofs.Turns.{Puts-exit_at}
use Rattle.serving.specs.AnswerText.{held_text}
use Rattle.serving.specs.declared.answer_line.HeldTransaction.{HeldTransaction}
use Rattle.serving.proofs.held_text.put_held_lines.Goals as goal

pub returns-in_err-put_one : goal.returns-in_err-put_one
returns-in_err-put_one g c =
    let stop = subst (λ (held : HeldTransaction). Puts (g.W.Out.taken c.loop-one.out) (g.W.Out.taken c.put_one.new.out) (g.W.Out.fault c.put_one.new.out) (held_text c.args.tag.now held) (Err c.in_err-put_one.field-0.0)) c.one-item.is c.in_err-put_one.ensures in
    Puts-exit_at c.items_in_turn.ensures (held_text c.args.tag.now) c.args.prepared.now c.loop-one.one-index c.one-item.result c.loop-one-test.true c.loop-one.invariant stop c.from_residual.ensures.1
