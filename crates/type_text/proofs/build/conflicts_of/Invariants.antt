use Rattle.std.proofs.Common.{◌≡◌, length, take}
use Rattle.type_text.specs.Rows.{lines_of_rows}
use Rattle.type_text.proofs.Conflicts.{AreConflictsOf}
use Rattle.type_text.proofs.build.conflicts_of.Given as goal

-- the pairs are those of the lines so far
abbrev pub invariant-loop-row : goal.invariant-loop-row
invariant-loop-row l = (length l.table ≡ l.ops) × AreConflictsOf l.kind (take l.row-index (lines_of_rows l.rows)) l.table
