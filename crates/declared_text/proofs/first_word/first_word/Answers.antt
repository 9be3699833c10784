use Rattle.std.proofs.Common.{◌∙◌, eqb, sym, ap, rules, tests}
use Rattle.std.proofs.lemmas.Iterator.Splits.{YieldsList-from_slice_split}
use Rattle.std.proofs.lemmas.Iterator.Consumers.{YieldsList-end, YieldsList-so_far, YieldsList-turn}
use Rattle.std.specs.List.{flat_map}
use Rattle.line_text.specs.Text.{content_of}
use Rattle.declared_text.proofs.FirstWords.{first_of_pieces}
use Rattle.declared_text.proofs.first_word.first_word.Goals as goal

pub returns-in-Some-first_in : goal.returns-in-Some-first_in
returns-in-Some-first_in c =
    let pieces = YieldsList-from_slice_split _ (λ b. eqb b 10) c.args.text.now (cc) (cc) (cc) (λ x b q k. search (rules, tests)) in
    let so_far = YieldsList-so_far pieces c.loop-line.yielded _ c.loop-line.yielded_by in
    let turn = YieldsList-turn pieces c.loop-line.yielded _ c.loop-line.yielded_by _ _ _ c.in-Some.is c.next.ensures.steps in
    first_of_pieces content_of _ _ c.in-Some.line.now c.in-Some-first_in.word.now (ap (flat_map content_of) (sym so_far) ∙ c.loop-line.invariant) turn.0 turn.1 c.in-Some-first_in.ensures

pub returns : goal.returns
returns c =
    let pieces = YieldsList-from_slice_split _ (λ b. eqb b 10) c.args.text.now (cc) (cc) (cc) (λ x b q k. search (rules, tests)) in
    let all = YieldsList-end pieces c.loop-line.yielded _ c.loop-line.yielded_by _ _ c.in-None.is c.next.ensures.steps in
    ap (flat_map content_of) (sym all.0) ∙ c.loop-line.invariant
