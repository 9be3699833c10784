use Rattle.std.proofs.Common.{[], ◌∷◌, ◌++◌, ap, sym, ◌∙◌}
use Rattle.number_text.specs.NumberLines.{calls_of}
use Rattle.number_text.proofs.Accepted.{calls_more}
use Rattle.number_text.proofs.build.calls_of.Goals as goal

pub loop-line-preserved : goal.loop-line-preserved
loop-line-preserved c =
    c.in_ok-push_call.ensures ∙ ap (λ cs. cs ++ calls_of (c.line-item.result ∷ [])) c.loop-line.invariant
    ∙ sym (calls_more c.args.lines.now c.loop-line.line-index c.line-item.result c.loop-line-test.true c.line-item.is)
