use Rattle.object_types.proofs.TwoTypes.{second-unplaced, third-not_first}
use Rattle.object_types.proofs.worked.the_first_object_has_the_fault.Goals as goal

pub returns-clause-first : goal.returns-clause-first
returns-clause-first c = second-unplaced

pub returns-clause-later : goal.returns-clause-later
returns-clause-later c = third-not_first
