use Rattle.std.proofs.Common.{Err, subst}
use Rattle.outputs.specs.Out.{Puts}
use Rattle.outputs.proofs.Turns.{Puts-exit_at}
use Rattle.serving.specs.AnswerText.{after_space}
use Rattle.serving.proofs.answer_text.put_each_word.Goals as goal

pub returns-in_err-put_word : goal.returns-in_err-put_word
returns-in_err-put_word g c =
    let stop = subst (λ o. Puts (g.W.Out.taken c.loop-word.out) (g.W.Out.taken c.put_word.new.out) (g.W.Out.fault c.put_word.new.out) (after_space o) (Err c.in_err-put_word.field-0.0)) c.word-item.is c.in_err-put_word.ensures in
    Puts-exit_at c.items_in_turn.ensures after_space c.args.words.now c.loop-word.word-index c.word-item.result c.loop-word-test.true c.loop-word.invariant stop c.from_residual.ensures.1
