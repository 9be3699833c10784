use Rattle.std.proofs.Common.{◌≡◌, arith}
use Rattle.line_text.proofs.Reading.{ReadsLines-one}
use Rattle.line_text.proofs.read.read_lines.Goals as goal

pub returns-clause-read : goal.returns-clause-read
returns-clause-read g c =
    let plain = c.keep_plain_lines-count in
    let none : plain.result.1 ≡ 0 = omega (arith, c.if-count-gt0.false) in
    ReadsLines-one (g.G.Grammar.rules c.args.grammar.now) c.args.text.now c.in_ok-behind.behind.now (g.G.Grammar.kept c.args.so_far.now.kept) (g.G.Grammar.kept plain.new.so_far.kept) (g.G.Grammar.kept c.read_line.new.so_far.kept)
    (plain.ensures.read.none none) c.in_ok-behind.ensures.read
