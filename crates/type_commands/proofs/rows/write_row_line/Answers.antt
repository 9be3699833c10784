use Rattle.std.proofs.Common.{◌≡◌, ◌∙◌, true, sym, ap, subst, slice_get, Some}
use Rattle.need_text.specs.Numeric.{bounds_line}
use Rattle.declared_types.specs.Declarations.{file_of, rows_of}
use Rattle.declared_types.specs.declared.declared_type.Declaration.{Declaration}
use Rattle.type_table.specs.Table.{has_op}
use Rattle.declared_types.specs.declared.type_file.TypeFile.{TypeFile}
use Rattle.type_commands.specs.Rows.{type_row_line}
use Rattle.type_commands.proofs.RowOps.{row_found, table_row}
use Rattle.type_commands.proofs.rows.write_row_line.Goals as goal

pub write_op_line-requires-clause-there : goal.write_op_line-requires-clause-there
write_op_line-requires-clause-there g c =
    let d = c.args.declared.now in
    let k = c.args.k in
    let row = c.index-rows-from.result in
    let at = row_found (rows_of d) c.rows.result.now k c.from.result row c.rows.ensures.exact c.from.ensures c.index-rows-from.is c.requires.inside in
    let T : TypeFile → Type 0 = λ file. has_op file.table k ≡ true in
    subst T (sym c.requires.same) (table_row d c.in-Table.field-0 k row (sym c.declaration.ensures ∙ c.in-Table.is) at c.as_bytes-call.ensures.name)

pub write_number_line-requires-clause-same : goal.write_number_line-requires-clause-same
write_number_line-requires-clause-same g c = c.requires.same ∙ ap file_of (sym c.declaration.ensures ∙ c.in-Number.is)

pub write_number_line-requires-clause-row : goal.write_number_line-requires-clause-row
write_number_line-requires-clause-row g c =
    let d = c.args.declared.now in
    let k = c.args.k in
    let row = c.index-rows-from.result in
    let at = row_found (rows_of d) c.rows.result.now k c.from.result row c.rows.ensures.exact c.from.ensures c.index-rows-from.is c.requires.inside in
    let D : Declaration → Type 0 = λ declaration. slice_get (rows_of declaration) k ≡ Some row in
    subst D (sym c.declaration.ensures ∙ c.in-Number.is) at

pub returns-in-Table : goal.returns-in-Table
returns-in-Table g c =
    let is = sym c.declaration.ensures ∙ c.in-Table.is in
    rw (ap (λ (file : TypeFile). bounds_line file.table c.args.k) (c.requires.same ∙ ap file_of is) ∙ sym (ap (λ d. type_row_line d c.args.k) is)) at c.write_op_line.ensures

pub returns-in-Number : goal.returns-in-Number
returns-in-Number g c =
    let is = sym c.declaration.ensures ∙ c.in-Number.is in
    rw (sym (ap (λ d. type_row_line d c.args.k) is)) at c.write_number_line.ensures
