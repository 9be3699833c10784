use Rattle.std.proofs.Common.{refl}
use Rattle.std.specs.Fmt.{digits}
use Rattle.type_table.specs.Table.{next}
use Rattle.script_run.proofs.worked.memory_is_refused_at_a_place.Goals as goal

pub returns : goal.returns
unfolding digits next
returns c = refl
