use Rattle.std.proofs.Common.{◌∙◌, eqb, map, sym, ap, rules, tests}
use Rattle.std.proofs.lemmas.List.{map_push}
use Rattle.std.specs.List.{slice_split}
use Rattle.std.proofs.lemmas.Iterator.Splits.{YieldsList-from_slice_split}
use Rattle.std.proofs.lemmas.Iterator.Consumers.{YieldsList-end, YieldsList-so_far, YieldsList-turn}
use Rattle.line_text.proofs.Words.{content_of-plain}
use Rattle.store_text.proofs.Sizes.{words_in_front, pieces_first, first_piece, none_more}
use Rattle.store_text.proofs.size.first_line.Goals as goal

pub loop-line-preserved : goal.loop-line-preserved
loop-line-preserved c =
    ap words_in_front (map_push (λ w. w.now) c.loop-line.yielded c.in-Some.line)
    ∙ none_more (map (λ w. w.now) c.loop-line.yielded) c.in-Some.line.now c.loop-line.invariant (sym c.has_words.ensures.some ∙ c.if-has_words.false)

pub returns-then-has_words : goal.returns-then-has_words
returns-then-has_words c =
    let line = c.in-Some.line.now in
    let all = slice_split (λ b. eqb b 10) c.args.text.now in
    let pieces = YieldsList-from_slice_split _ (λ b. eqb b 10) c.args.text.now (cc) (cc) (cc) (λ x b q k. search (rules, tests)) in
    let so_far = YieldsList-so_far pieces c.loop-line.yielded _ c.loop-line.yielded_by in
    let turn = YieldsList-turn pieces c.loop-line.yielded _ c.loop-line.yielded_by _ _ _ c.in-Some.is c.next.ensures.steps in
    pieces_first all
    ∙ first_piece all _ line (ap words_in_front (sym so_far) ∙ c.loop-line.invariant) turn.0 turn.1 (sym c.has_words.ensures.some ∙ c.if-has_words.true)
    ∙ sym (content_of-plain line (c.has_words.ensures.told c.if-has_words.true))

pub returns : goal.returns
returns c =
    let all = slice_split (λ b. eqb b 10) c.args.text.now in
    let pieces = YieldsList-from_slice_split _ (λ b. eqb b 10) c.args.text.now (cc) (cc) (cc) (λ x b q k. search (rules, tests)) in
    let end = YieldsList-end pieces c.loop-line.yielded _ c.loop-line.yielded_by _ _ c.in-None.is c.next.ensures.steps in
    pieces_first all ∙ ap words_in_front (sym end.0) ∙ c.loop-line.invariant
