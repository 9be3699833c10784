use Rattle.object_trait.proofs.Meanings.{applied-sound}
use Rattle.object_trait.proofs.laws.sound_after_apply.Goals as goal

pub returns : goal.returns
returns c = search (c, applied-sound)
