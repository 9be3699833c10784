use Rattle.std.proofs.Common.{◌≤◌, length, subst}
use Rattle.declared_types.specs.declared.type_file.TypeFile.{TypeFile}
use Rattle.library_calls.specs.Operations.{operation_count}
use Rattle.library_calls.proofs.Numbered.{none_far}
use Rattle.library_calls.proofs.call_numbers.numbers_none.Goals as goal

pub returns-in-Some : goal.returns-in-Some
returns-in-Some c =
    none_far c.args.store.now c.args.x c.args.c c.in-Some.checked.now c.in-Some.ensures.checked
    (subst (λ (f : TypeFile). length f.table.ops ≤ operation_count) c.declared.ensures.exact c.known.ensures.few) c.requires
