use Rattle.std.proofs.Common.{◌∙◌, subst, sym}
use Rattle.std.specs.Prelude.{OnOk}
use Rattle.declared_text.specs.Canonical.{IsReadBack}
use Rattle.declared_text.proofs.ReadBack.{number_read_back, table_read_back}
use Rattle.declared_text.proofs.write.write_declared.Goals as goal

pub returns-in-Table-clause-read_back : goal.returns-in-Table-clause-read_back
returns-in-Table-clause-read_back g c =
    subst (λ d. OnOk c.write_type.result (IsReadBack d)) (sym c.in-Table.is ∙ c.declaration.ensures) (table_read_back c.write_type.result c.in-Table.file c.write_type.ensures.read_back)

pub returns-in-Number-clause-read_back : goal.returns-in-Number-clause-read_back
returns-in-Number-clause-read_back g c =
    subst (λ d. OnOk c.write_number.result (IsReadBack d)) (sym c.in-Number.is ∙ c.declaration.ensures) (number_read_back c.write_number.result c.in-Number.number c.write_number.ensures.read_back)
