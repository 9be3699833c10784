use Rattle.std.proofs.Common.{take}
use Rattle.type_text.specs.Rows.{lines_of_rows}
use Rattle.type_text.proofs.Steps.{AreStepsOf}
use Rattle.type_text.proofs.build.put_steps.Given as goal

-- the entries are those of the lines so far
abbrev pub invariant-loop-row : goal.invariant-loop-row
invariant-loop-row l = AreStepsOf l.ops (take l.row-index (lines_of_rows l.rows)) l.steps
