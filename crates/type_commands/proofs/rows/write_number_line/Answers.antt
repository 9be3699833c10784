use Rattle.std.proofs.Common.{◌≡◌, ◌∙◌, true, sym, ap, subst}
use Rattle.std.proofs.lemmas.Option.{slice_get_within}
use Rattle.need_text.specs.Numeric.{bounds_line}
use Rattle.number_types.specs.Operations.{number_rows}
use Rattle.type_table.specs.Table.{has_op}
use Rattle.declared_types.specs.declared.type_file.TypeFile.{TypeFile}
use Rattle.type_commands.specs.Rows.{number_row_line}
use Rattle.type_commands.proofs.RowOps.{any_line_is, row_is_op}
use Rattle.type_commands.proofs.rows.write_number_line.Goals as goal

pub write_op_line-requires-clause-there : goal.write_op_line-requires-clause-there
write_op_line-requires-clause-there g c =
    let v = c.args.number.now in
    let k = c.args.k in
    let T : TypeFile → Type 0 = λ file. has_op file.table k ≡ true in
    let inside = slice_get_within (number_rows v) k c.args.row c.requires.row in
    subst T (sym c.requires.same) (row_is_op v k c.calls-calls.ensures.number c.ranges.k.fits inside (sym c.any_op_at.ensures ∙ c.in-None.is))

pub returns-in-Some : goal.returns-in-Some
returns-in-Some g c =
    rw (any_line_is c.args.number.now c.args.k c.max.result c.args.row c.in-Some.op _ c.requires.row c.max.ensures (sym c.any_op_at.ensures ∙ c.in-Some.is)) at c.write_any_line.ensures

pub returns-in-None : goal.returns-in-None
returns-in-None g c =
    let v = c.args.number.now in
    let k = c.args.k in
    rw (ap (λ (file : TypeFile). bounds_line file.table k) c.requires.same ∙ sym (ap (number_row_line v k) (sym c.any_op_at.ensures ∙ c.in-None.is))) at c.write_op_line.ensures
