use Rattle.std.proofs.Common.{List, ℕ, ◌∷◌, [], ◌++◌, take, ap, ◌∙◌}
use Rattle.std.proofs.lemmas.List.{take_all}
use Rattle.outputs.proofs.Numbers.{numbers_text, line-parts}
use Rattle.outputs.proofs.number_line.spell_line.Goals as goal

pub returns-clause-line : goal.returns-clause-line
returns-clause-line c =
    let numbers = c.args.numbers.now in
    let front = take c.args.start c.args.buffer.now in
    let all = take_all c.loop-number.number-index numbers c.loop-number-test.false in
    c.spell_word.ensures.word
    ∙ ap (λ (l : List ℕ). l ++ 10 ∷ []) (c.loop-number.invariant.0 ∙ ap (λ (ns : List ℕ). (front ++ c.args.keyword.now) ++ numbers_text ns) all)
    ∙ line-parts front c.args.keyword.now numbers
