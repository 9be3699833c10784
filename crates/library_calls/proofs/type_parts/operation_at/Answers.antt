use Rattle.std.proofs.Common.{is_some, sym, ap, ◌∙◌, arith}
use Rattle.declared_types.specs.Declarations.{table_of}
use Rattle.declared_types.proofs.TableOps.{op_past}
use Rattle.library_calls.proofs.Numbered.{far}
use Rattle.library_calls.proofs.type_parts.operation_at.Goals as goal

pub returns-in_err-operation-clause-there : goal.returns-in_err-operation-clause-there
returns-in_err-operation-clause-there c =
    let past = far c.args.k (sym c.operation_of.ensures ∙ c.in_err-operation.was) in
    ap is_some c.from_residual.ensures ∙ sym (op_past (table_of c.args.declared.now) c.args.k (omega (arith, past, c.known-declared.ensures.few)))
