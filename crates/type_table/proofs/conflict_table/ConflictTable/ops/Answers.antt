use Rattle.std.proofs.Common.{◌≤◌, length, arith}
use Rattle.type_table.specs.ConflictTable.{IsSquare}
use Rattle.type_table.proofs.Cells.{square-rows_of}
use Rattle.type_table.proofs.conflict_table.ConflictTable.ops.Goals as goal

pub returns-clause-square : goal.returns-clause-square
returns-clause-square c =
    let inside = c.self.inside in
    let fits : inside.ops ≤ length inside.words = omega (arith, c.self.told, c.self.invariant) in
    let square : IsSquare inside.ops c.args.self.now = rw c.self.view_is at (square-rows_of inside.ops inside.words fits) in
    rw square.height square
