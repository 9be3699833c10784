use Rattle.std.proofs.Common.{refl}
use Rattle.type_table.specs.Name.{is_name}
use Rattle.object_name.specs.ObjectName.{is_object_name}
use Rattle.request_text.proofs.worked.several_are_read.Goals as goal

pub returns-clause-calls : goal.returns-clause-calls
unfolding is_name is_object_name
returns-clause-calls c = refl

pub returns-clause-objects : goal.returns-clause-objects
unfolding is_name is_object_name
returns-clause-objects c = refl
