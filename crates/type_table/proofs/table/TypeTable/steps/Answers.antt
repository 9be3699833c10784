use Rattle.std.proofs.Common.{subst, sym}
use Rattle.type_table.specs.Table.{Table, AreSteps}
use Rattle.type_table.proofs.Steps.{steps-say}
use Rattle.type_table.proofs.table.TypeTable.steps.Goals as goal

pub returns-clause-next : goal.returns-clause-next
returns-clause-next c =
    subst (λ (T : Table). AreSteps T c.deref.result.now) c.self.view_is
    (subst (λ steps. AreSteps (record { name = c.self.inside.name; states = c.self.inside.states; initial = c.self.inside.initial; ops = c.self.inside.ops.items; steps = c.self.inside.steps.items }) steps) (sym c.deref.ensures.value)
    (steps-say _ c.self.invariant))
