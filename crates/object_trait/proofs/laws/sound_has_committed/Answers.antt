use Rattle.object_trait.proofs.Committed.{sound_has_committed}
use Rattle.object_trait.proofs.laws.sound_has_committed.Goals as goal

pub returns : goal.returns
returns c = sound_has_committed c.ends_inside.ensures c.legal_ends.ensures c.parts_sort.ensures c.sorts_look.ensures
