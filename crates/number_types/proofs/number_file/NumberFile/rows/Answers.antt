use Rattle.std.proofs.Common.{List, length, ap, ◌∙◌, arith}
use Rattle.type_table.specs.declared.op.Op.{Op}
use Rattle.number_types.proofs.LineRows.{few_rows}
use Rattle.number_types.proofs.number_file.NumberFile.rows.Goals as goal

pub returns-clause-few : goal.returns-clause-few
returns-clause-few c =
    let held = ap (λ (rows : List Op). length rows) (c.deref.ensures.value ∙ c.self.invariant.rows) in
    let calls = c.self.invariant.number.calls_fit in
    omega (arith, held, calls, few_rows c.self.inside.calls.items)
