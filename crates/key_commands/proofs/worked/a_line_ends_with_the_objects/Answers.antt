use Rattle.std.proofs.Common.{◌∷◌, []}
use Rattle.std.specs.Fmt.{digits}
use Rattle.key_commands.specs.Examples.{first_prepared}
use Rattle.key_commands.proofs.Told.{line_of}
use Rattle.key_commands.proofs.worked.a_line_ends_with_the_objects.Goals as goal

pub returns-clause-two : goal.returns-clause-two
unfolding digits
returns-clause-two c = λ held those objects. line_of held first_prepared (0 ∷ 2 ∷ []) those objects

pub returns-clause-none : goal.returns-clause-none
unfolding digits
returns-clause-none c = λ held those objects. line_of held first_prepared [] those objects
