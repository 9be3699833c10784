use Rattle.std.proofs.Common.{refl}
use Rattle.declared_types.proofs.type_file.TypeFile.conflicts.Goals as goal

pub returns-in-Undo-clause-exact : goal.returns-in-Undo-clause-exact
returns-in-Undo-clause-exact c = rw c.in-Undo.is refl
