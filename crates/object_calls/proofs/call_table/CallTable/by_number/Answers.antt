use Rattle.std.proofs.Common.{◌≡◌, ◌≤◌, length, sym, subst, ap, ◌∙◌}
use Rattle.type_table.specs.Limits.{most_ops}
use Rattle.type_table.specs.Table.{Table}
use Rattle.declared_types.specs.Declarations.{table_of}
use Rattle.object_calls.proofs.Held.{found_by_number, not_numbered}
use Rattle.object_calls.proofs.call_table.CallTable.by_number.Goals as goal

pub returns-in-Some-clause-call : goal.returns-in-Some-clause-call
returns-in-Some-clause-call c =
    (c.in-Some.ensures.number, found_by_number (table_of c.args.declared.now) c.args.self.now c.requires c.args.c c.in-Some.call (sym c.held_by_number.ensures.exact ∙ c.in-Some.is))

pub returns-in-Table-clause-named : goal.returns-in-Table-clause-named
returns-in-Table-clause-named c = λ name first.
    let T = table_of c.args.declared.now in
    let is : T ≡ c.in-Table.file.table = ap table_of (sym c.declaration.ensures ∙ c.in-Table.is) in
    let few = subst (λ (t : Table). length t.ops ≤ most_ops) (sym is) c.states-states.ensures.table.ops_fit in
    absurd (not_numbered T c.args.self.now c.requires c.args.c c.held_by_number.result c.held_by_number.ensures.exact c.in_default.not-Some few name first)
