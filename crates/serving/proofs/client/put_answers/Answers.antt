use Rattle.std.proofs.Common.{subst, Err}
use Rattle.outputs.specs.Out.{Puts}
use Rattle.outputs.proofs.Turns.{Puts-exit_at}
use Rattle.serving.specs.AnswerText.{answer_text}
use Rattle.serving.specs.declared.answer_line.Answered.{Answered}
use Rattle.serving.proofs.client.put_answers.Goals as goal

pub returns-in_err-write_answer : goal.returns-in_err-write_answer
returns-in_err-write_answer g c =
    let stop = subst (λ (a : Answered). Puts (g.W.Out.taken c.loop-answered.out) (g.W.Out.taken c.write_answer.new.out) (g.W.Out.fault c.write_answer.new.out) (answer_text a.tag a.answer) (Err c.in_err-write_answer.field-0.0))
    c.answered-item.is c.in_err-write_answer.ensures in
    Puts-exit_at c.items_in_turn.ensures (λ (a : Answered). answer_text a.tag a.answer) c.args.answers.now c.loop-answered.answered-index c.answered-item.result c.loop-answered-test.true c.loop-answered.invariant
    stop c.from_residual.ensures.1
