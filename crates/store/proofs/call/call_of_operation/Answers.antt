use Rattle.std.proofs.Common.{sym, ap, ◌∙◌}
use Rattle.type_table.specs.Table.{first_op}
use Rattle.declared_types.specs.Declarations.{table_of}
use Rattle.store.proofs.OpCalls.{call-name}
use Rattle.store.proofs.call.call_of_operation.Goals as goal

pub returns : goal.returns
returns g =
    let T = table_of g.args.declared.now in
    g.first_op.ensures ∙ ap (first_op T) (g.as_bytes.ensures.exact ∙ sym (call-name T g.args.k g.in_ok-op.op g.in_ok-op.ensures.exact))
