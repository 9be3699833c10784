use Rattle.std.proofs.Common.{arith}
use Rattle.type_table.proofs.Steps.{read-next}
use Rattle.type_table.proofs.table.TypeTable.next.Goals as goal

pub returns-clause-exact : goal.returns-clause-exact
returns-clause-exact c =
    read-next c.args.self.now _ c.args.s c.args.k c.len.result c.index.result.now c.self.view_is (omega (arith, c.self.inside.ops.ok.0)) c.self.invariant c.requires.state c.requires.operation c.index.ensures
