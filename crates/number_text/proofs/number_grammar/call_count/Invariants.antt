-- The calls of the lines so far are counted; there are no more of them than lines.
use Rattle.std.proofs.Common.{◌≡◌, ◌≤◌, take, length}
use Rattle.number_text.specs.NumberLines.{calls_of}
use Rattle.number_text.proofs.number_grammar.call_count.Given as goal

abbrev pub invariant-loop-line : goal.invariant-loop-line
invariant-loop-line l = (l.count ≡ length (calls_of (take l.line-index l.lines))) × (l.count ≤ l.line-index)
