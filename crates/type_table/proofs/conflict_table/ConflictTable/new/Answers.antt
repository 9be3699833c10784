use Rattle.std.proofs.Common.{refl}
use Rattle.type_table.proofs.Cells.{square-rows_of, no_conflicts}
use Rattle.type_table.proofs.conflict_table.ConflictTable.new.Goals as goal

pub returns-clause-square : goal.returns-clause-square
returns-clause-square c = square-rows_of c.args.ops _ c.requires

pub returns-clause-none : goal.returns-clause-none
returns-clause-none c = no_conflicts 64 c.args.ops _ refl c.requires
