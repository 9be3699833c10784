use Rattle.object_trait.proofs.Meanings.{struck-sound}
use Rattle.object_trait.proofs.laws.sound_after_strike.Goals as goal

pub returns : goal.returns
returns c = search (c, struck-sound)
