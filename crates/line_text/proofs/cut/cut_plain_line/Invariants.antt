-- The front of the text was cut into words, and ends at a space.
use Rattle.std.proofs.Common.{length, map}
use Rattle.line_text.proofs.Cutting.{HasCut}
use Rattle.line_text.proofs.cut.cut_plain_line.Given as goal

abbrev pub invariant-loop-rest : goal.invariant-loop-rest
invariant-loop-rest l = HasCut l.text l.rest (map (λ w. w.now) l.words.items)

abbrev pub decreases-loop-rest : goal.decreases-loop-rest
decreases-loop-rest l = length l.rest
