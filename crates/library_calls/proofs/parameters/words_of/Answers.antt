use Rattle.std.proofs.Common.{eqb, filter, ap, ◌∙◌, rules, tests}
use Rattle.std.proofs.lemmas.Iterator.Splits.{YieldsList-from_slice_split}
use Rattle.std.proofs.lemmas.Iterator.Consumers.{YieldsList-end}
use Rattle.line_text.specs.Text.{has_bytes}
use Rattle.library_calls.proofs.parameters.words_of.Goals as goal

pub returns : goal.returns
returns c =
    let pieces = YieldsList-from_slice_split _ (λ b. eqb b 32) c.args.text.now (cc) (cc) (cc) (λ x b q k. search (rules, tests)) in
    let all = YieldsList-end pieces c.loop-word.yielded _ c.loop-word.yielded_by _ _ c.in-None.is c.next.ensures.steps in
    c.loop-word.invariant ∙ ap (filter has_bytes) all.0
