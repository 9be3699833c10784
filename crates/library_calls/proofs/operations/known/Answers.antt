use Rattle.std.proofs.Common.{◌≤◌, length, subst, sym, ◌∙◌}
use Rattle.declared_types.specs.Declarations.{table_of}
use Rattle.declared_types.specs.declared.declared_type.Declaration.{Declaration}
use Rattle.library_calls.specs.Operations.{operation_count}
use Rattle.library_calls.proofs.Numbered.{few_of_number}
use Rattle.library_calls.proofs.operations.known.Goals as goal

pub returns-in-Number-clause-few : goal.returns-in-Number-clause-few
returns-in-Number-clause-few c =
    subst (λ (d : Declaration). length (table_of d).ops ≤ operation_count) (sym c.in-Number.is ∙ c.declaration.ensures)
    (few_of_number c.in-Number.number c.calls-calls.ensures.number)
