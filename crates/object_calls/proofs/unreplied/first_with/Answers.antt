use Rattle.std.proofs.Common.{sym, ap, ◌∙◌, Some}
use Rattle.type_table.specs.Operation.{operation_at}
use Rattle.type_table.specs.Table.{first_op}
use Rattle.number_types.specs.Operations.{number_table}
use Rattle.object_calls.proofs.WithoutReply.{name_there}
use Rattle.object_calls.proofs.unreplied.first_with.Goals as goal

pub returns : goal.returns
returns c =
    let T = number_table c.args.number.now in
    c.first_op.ensures ∙ ap (first_op T) (c.as_bytes.ensures.exact ∙ sym (name_there T (operation_at c.args.place (Some c.args.amount)) c.in_ok-op.op (rw c.with.ensures at c.in_ok-op.ensures.exact)))
