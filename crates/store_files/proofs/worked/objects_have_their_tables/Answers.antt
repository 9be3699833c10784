use Rattle.std.proofs.Common.{refl}
use Rattle.type_table.specs.Examples.{counter_table}
use Rattle.object_types.specs.Examples.{line_in_place}
use Rattle.store_files.proofs.TwoTypes.{two-tables, counter-elsewhere}
use Rattle.store_files.proofs.worked.objects_have_their_tables.Goals as goal

pub returns-clause-tables : goal.returns-clause-tables
returns-clause-tables c = two-tables

pub returns-clause-exchanged : goal.returns-clause-exchanged
returns-clause-exchanged c = λ are. counter-elsewhere (are.each 0 (line_in_place 1) counter_table refl refl)
