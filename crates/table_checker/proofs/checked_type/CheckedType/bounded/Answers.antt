use Rattle.std.proofs.Common.{sym, ap, ◌∙◌}
use Rattle.table_checker.specs.Checked.{Checked}
use Rattle.table_checker.proofs.Declared.{held_of_table, held_of_number}
use Rattle.table_checker.proofs.checked_type.CheckedType.bounded.Goals as goal

pub held_at-requires-clause-bounds : goal.held_at-requires-clause-bounds
held_at-requires-clause-bounds c =
    let inside = c.self.inside in
    held_of_table inside.kind inside.declared inside.bounds c.in-Table.file c.self.invariant.0.bounds_are (sym c.declaration.ensures ∙ c.in-Table.is)
    (ap (λ (k : Checked). k.kind) c.self.view_is ∙ c.requires.kind)

pub held_or_worked_out-requires-clause-bounds : goal.held_or_worked_out-requires-clause-bounds
held_or_worked_out-requires-clause-bounds c =
    let inside = c.self.inside in
    held_of_number inside.kind inside.declared inside.bounds c.in-Number.number c.self.invariant.0.bounds_are (sym c.declaration.ensures ∙ c.in-Number.is)
