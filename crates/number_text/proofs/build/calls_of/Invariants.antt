-- The list has the calls of the lines so far.
use Rattle.std.proofs.Common.{◌≡◌, take}
use Rattle.number_text.specs.NumberLines.{calls_of}
use Rattle.number_text.proofs.build.calls_of.Given as goal

abbrev pub invariant-loop-line : goal.invariant-loop-line
invariant-loop-line l = l.calls.items ≡ calls_of (take l.line-index l.lines)
