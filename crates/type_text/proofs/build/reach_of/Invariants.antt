use Rattle.std.proofs.Common.{◌≡◌, length, take}
use Rattle.type_text.specs.Rows.{lines_of_rows}
use Rattle.type_text.proofs.Pairs.{AreMembersOf}
use Rattle.type_text.proofs.build.reach_of.Given as goal

-- the members are those of the lines so far
abbrev pub invariant-loop-row : goal.invariant-loop-row
invariant-loop-row l = (length l.set ≡ l.states) × AreMembersOf (take l.row-index (lines_of_rows l.rows)) l.set
