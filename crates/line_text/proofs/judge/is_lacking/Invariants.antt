-- The flag says what the sections so far lack.
use Rattle.std.proofs.Common.{◌≡◌}
use Rattle.line_text.specs.LineTests.{lacks}
use Rattle.line_text.proofs.judge.is_lacking.Given as goal

abbrev pub invariant-loop-lower : goal.invariant-loop-lower
invariant-loop-lower g l = l.is_lacking ≡ lacks (g.G.Grammar.rules l.grammar) (g.G.Grammar.kept l.so_far.kept) l.lower
