use Rattle.std.proofs.Common.{◌≤◌, length, arith}
use Rattle.type_table.proofs.Cells.{word-conflicts}
use Rattle.type_table.proofs.conflict_table.ConflictTable.row.Goals as goal

pub returns : goal.returns
returns c =
    let fits : c.self.inside.ops ≤ length c.self.inside.words = omega (arith, c.self.told, c.self.invariant) in
    rw c.from.ensures (word-conflicts c.self.inside.ops c.args.p c.self.inside.words c.args.self.now c.self.view_is fits c.requires)
