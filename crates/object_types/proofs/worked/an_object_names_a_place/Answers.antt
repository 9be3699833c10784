use Rattle.std.proofs.Common.{refl}
use Rattle.table_checker.specs.Examples.{one_way_file}
use Rattle.declared_types.specs.declared.declared_type.Declaration.TheVariants.{Table}
use Rattle.object_types.proofs.worked.an_object_names_a_place.Goals as goal

pub returns-clause-place : goal.returns-clause-place
returns-clause-place c = (Table one_way_file, refl)
