use Rattle.std.proofs.Common.{subst, arith}
use Rattle.serving.specs.Several.{TellsReplies}
use Rattle.serving.proofs.ToldReplies.{one-reply}
use Rattle.serving.proofs.whole.done_answer.Goals as goal

pub returns : goal.returns
returns c =
    subst (λ replies. TellsReplies replies c.reply_answer.result)
    (one-reply c.args.store.now c.args.calls.now c.args.operations.now _ c.k-item.result (omega (arith, c.in-len1.len_at_least, c.in-len1.len_below)) (omega (arith, c.in-len1-operations.len_at_least, c.in-len1-operations.len_below)) c.k-item.is)
    c.reply_answer.ensures
