use Rattle.std.proofs.Common.{ℕ, List, Err, ◌∙◌, subst}
use Rattle.outputs.specs.Out.{Puts}
use Rattle.outputs.proofs.Turns.{Puts-exit_at}
use Rattle.serving.specs.AnswerText.{answer_lines}
use Rattle.serving.proofs.answer_text.put_texts.Goals as goal

pub returns-in_err-put_text : goal.returns-in_err-put_text
returns-in_err-put_text g c =
    let stop = subst (λ (text : List ℕ). Puts (g.W.Out.taken c.loop-text.out) (g.W.Out.taken c.put_text.new.out) (g.W.Out.fault c.put_text.new.out) (answer_lines c.args.tag.now text) (Err c.in_err-put_text.field-0.0))
    (c.as_bytes.ensures ∙ c.text-item.is) c.in_err-put_text.ensures in
    Puts-exit_at c.items_in_turn.ensures (answer_lines c.args.tag.now) c.args.texts.now c.loop-text.text-index c.text-item.result c.loop-text-test.true c.loop-text.invariant stop c.from_residual.ensures.1
