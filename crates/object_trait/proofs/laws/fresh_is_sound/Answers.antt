use Rattle.object_trait.proofs.Meanings.{fresh-sound}
use Rattle.object_trait.proofs.laws.fresh_is_sound.Goals as goal

pub returns : goal.returns
returns c = search (c, fresh-sound)
