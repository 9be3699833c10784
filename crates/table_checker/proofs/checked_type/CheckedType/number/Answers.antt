use Rattle.std.proofs.Common.{ap}
use Rattle.type_table.specs.declared.kind.Kind.TheVariants as kinds
use Rattle.table_checker.specs.Checked.{Checked}
use Rattle.declared_types.specs.Declarations.{file_of}
use Rattle.declared_types.specs.declared.declared_type.Declaration.{Declaration}
use Rattle.table_checker.proofs.checked_type.CheckedType.number.Goals as goal

-- what is accepted for escrow, as it was declared
abbrev for_escrow : Declaration → Checked
for_escrow declared = record { kind = kinds.Escrow; file = file_of declared }

pub returns : goal.returns
returns c = ap for_escrow c.number.ensures
