use Rattle.std.proofs.Common.{sym, ◌∙◌, arith}
use Rattle.std.proofs.lemmas.Bool.{le-ltb}
use Rattle.line_text.proofs.Lacking.{lacks-lower}
use Rattle.line_text.proofs.judge.lacks.Goals as goal

pub returns-else-rank-so_far : goal.returns-else-rank-so_far
returns-else-rank-so_far g c = le-ltb c.args.so_far.now.clear c.args.rank (omega arith) ∙ sym (lacks-lower (g.G.Grammar.rules c.args.grammar.now) (g.G.Grammar.kept c.args.so_far.now.kept) c.args.rank c.args.so_far.now.clear (omega arith) c.requires.known.lacks_none)
