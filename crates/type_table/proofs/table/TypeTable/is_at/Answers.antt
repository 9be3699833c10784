use Rattle.std.proofs.Common.{ap, sym, ◌∙◌}
use Rattle.std.proofs.lemmas.Bool.{not-false}
use Rattle.type_table.specs.Table.{Table, table_at}
use Rattle.type_table.proofs.Same.{same-at, same-ops, same-steps, same-name}
use Rattle.type_table.proofs.table.TypeTable.is_at.Goals as goal

pub returns : goal.returns
returns c = λ same.
    let one = c.self.inside in
    let two = c.other.inside in
    let table : Table = record { name = one.name; states = one.states; initial = one.initial; ops = one.ops.items; steps = one.steps.items } in
    let other : Table = record { name = two.name; states = two.states; initial = two.initial; ops = two.ops.items; steps = two.steps.items } in
    sym c.self.view_is
    ∙ same-at table other c.args.state
    (same-name one.name two.name (not-false _ (sym c.ne.ensures ∙ c.if-ne.false)))
    c.if-self-other.false
    c.if-self-state.false
    (same-ops one.ops.items two.ops.items (not-false _ (sym c.ne-else-ne.ensures ∙ c.if-ne-2.false)))
    (same-steps one.steps.items two.steps.items c.eq.result c.eq.ensures same)
    ∙ ap (λ (T : Table). table_at T c.args.state) c.other.view_is
