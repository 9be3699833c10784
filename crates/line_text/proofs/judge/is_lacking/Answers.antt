use Rattle.std.proofs.Common.{◌≡◌, ap, ◌∙◌, arith}
use Rattle.line_text.specs.LineTests.{lacks}
use Rattle.line_text.proofs.judge.is_lacking.Goals as goal

pub returns : goal.returns
returns g c =
    let all : c.loop-lower.lower ≡ c.args.rank = omega arith in
    c.loop-lower.invariant ∙ ap (lacks (g.G.Grammar.rules c.args.grammar.now) (g.G.Grammar.kept c.args.so_far.now.kept)) all
