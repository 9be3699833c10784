use Rattle.std.proofs.Common.{[], ◌∷◌, length, take, ap, arith}
use Rattle.std.proofs.lemmas.List.{length-append}
use Rattle.number_text.specs.NumberLines.{calls_of}
use Rattle.number_text.proofs.Accepted.{calls_more}
use Rattle.number_text.proofs.number_grammar.call_count.Goals as goal

pub loop-line-preserved : goal.loop-line-preserved
loop-line-preserved c =
    let lines = c.args.lines.now in
    let i = c.loop-line.line-index in
    let x = c.line-item.result in
    let more = calls_more lines i x c.loop-line-test.true c.line-item.is in (
      omega (arith, c.calls_in-count.ensures.exact, c.loop-line.invariant.0, ap length more, length-append (calls_of (take i lines)) (calls_of (x ∷ []))),
      omega (arith, c.calls_in-count.ensures.few, c.loop-line.invariant.1),
    )
