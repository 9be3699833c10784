use Rattle.std.proofs.Common.{◌∙◌, eqb, filter, sym, ap, subst, rules, tests}
use Rattle.std.proofs.lemmas.Iterator.Splits.{YieldsList-from_slice_split}
use Rattle.std.proofs.lemmas.Iterator.Consumers.{YieldsList-end, YieldsList-so_far, YieldsList-turn}
use Rattle.line_text.specs.Text.{has_bytes}
use Rattle.declared_text.specs.Declared.{IsFirst}
use Rattle.declared_text.proofs.FirstWords.{first_that_passes, line_content, some_bytes}
use Rattle.declared_text.proofs.first_word.first_in.Goals as goal

pub returns-then-not-is_empty : goal.returns-then-not-is_empty
returns-then-not-is_empty c =
    let line = c.args.line.now in
    let word = c.in-Some.word.now in
    let pieces = YieldsList-from_slice_split _ (λ b. eqb b 32) line (cc) (cc) (cc) (λ x b q k. search (rules, tests)) in
    let so_far = YieldsList-so_far pieces c.loop-word.yielded _ c.loop-word.yielded_by in
    let turn = YieldsList-turn pieces c.loop-word.yielded _ c.loop-word.yielded_by _ _ _ c.in-Some.is c.next.ensures.steps in
    subst (λ words. IsFirst words word) (line_content line (sym c.if-is_comment.ensures))
    (first_that_passes has_bytes _ _ word (ap (filter has_bytes) (sym so_far) ∙ c.loop-word.invariant) turn.0 turn.1 (some_bytes word (sym c.if-not-is_empty.ensures)))

pub returns : goal.returns
returns c =
    let line = c.args.line.now in
    let pieces = YieldsList-from_slice_split _ (λ b. eqb b 32) line (cc) (cc) (cc) (λ x b q k. search (rules, tests)) in
    let all = YieldsList-end pieces c.loop-word.yielded _ c.loop-word.yielded_by _ _ c.in-None.is c.next.ensures.steps in
    sym (line_content line (sym c.if-is_comment.ensures)) ∙ ap (filter has_bytes) (sym all.0) ∙ c.loop-word.invariant
