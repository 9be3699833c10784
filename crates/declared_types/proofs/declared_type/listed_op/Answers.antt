use Rattle.std.proofs.Common.{◌≡◌, List, length, get_or, slice_get, Some, sym, ap, ◌∙◌, arith}
use Rattle.std.proofs.lemmas.Option.{slice_get-get_or}
use Rattle.type_table.specs.declared.op.Op.{Op}
use Rattle.declared_types.proofs.TableOps.{op_found, name_length}
use Rattle.declared_types.proofs.declared_type.listed_op.Goals as goal

-- what is found at the place is the table's operation there
found : (c : goal.After-as_bytes-call) → slice_get c.args.table.now.ops c.args.place ≡ Some c.in_ok-op.field-0.now
found c =
    let T = c.args.table.now in
    let op : Op = c.in_ok-op.field-0.now in
    let lookup = c.in_ok-op.ensures.lookup in
    let place = c.from.ensures in
    let ops : length c.ops.result.now ≡ length T.ops = ap (λ (os : List Op). length os) c.ops.ensures in
    let inside = lookup.3.0 in
    let at : op ≡ get_or T.ops c.args.place op = lookup.1 ∙ ap (λ (os : List Op). get_or os c.from.result op) c.ops.ensures ∙ ap (λ n. get_or T.ops n op) place in
    slice_get-get_or T.ops c.args.place op (omega (arith, place, ops, inside)) ∙ ap Some (sym at)

pub returns-clause-there : goal.returns-clause-there
returns-clause-there c = sym (op_found c.args.table.now c.args.place c.in_ok-op.field-0.now (found c) (name_length c.in_ok-op.field-0.now.call c.as_bytes-call.ensures.name))

pub returns-clause-exact : goal.returns-clause-exact
returns-clause-exact c = found c
