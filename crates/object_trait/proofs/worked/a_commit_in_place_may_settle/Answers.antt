use Rattle.std.proofs.Common.{[], ◌∷◌, refl}
use Rattle.type_table.specs.Table.{next}
use Rattle.object_trait.specs.Examples.{done_entry}
use Rattle.object_trait.proofs.worked.a_commit_in_place_may_settle.Goals as goal

-- the first entry, which is done after the commit, moves into base
pub returns-clause-settles : goal.returns-clause-settles
unfolding next
returns-clause-settles c = record { checked = refl; commit = record { moved = done_entry 1 0 ∷ []; front = refl; done = (refl, tt); reached = refl } }
