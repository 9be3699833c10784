use Rattle.std.proofs.Common.{◌≡◌, length, take}
use Rattle.type_text.specs.Rows.{lines_of_rows}
use Rattle.type_text.proofs.Pairs.{ArePairsOf}
use Rattle.type_text.proofs.build.relation_of.Given as goal

-- the pairs are those of the lines so far
abbrev pub invariant-loop-row : goal.invariant-loop-row
invariant-loop-row l = (length l.relation ≡ l.states) × ArePairsOf l.states (take l.row-index (lines_of_rows l.rows)) l.relation
