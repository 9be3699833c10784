use Rattle.std.proofs.Common.{◌≤◌, length, arith}
use Rattle.type_table.proofs.Cells.{square-set, bit-pairs}
use Rattle.type_table.proofs.conflict_table.ConflictTable.set.Goals as goal

pub returns-clause-square : goal.returns-clause-square
returns-clause-square c =
    let inside = c.self.inside in
    let fits : inside.ops ≤ length inside.words = omega (arith, c.self.told, c.self.invariant) in
    square-set inside.ops c.args.p _ inside.words c.args.self.now c.self.view_is fits

pub returns-clause-pairs : goal.returns-clause-pairs
returns-clause-pairs c =
    let fits : c.self.inside.ops ≤ length c.self.inside.words = omega (arith, c.self.told, c.self.invariant) in
    bit-pairs c.self.inside.ops c.args.p c.args.q c.self.inside.words c.args.self.now c.self.view_is c.self.invariant fits c.requires.requested c.requires.held
