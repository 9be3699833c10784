use Rattle.object_trait.proofs.Meanings.{committed-sound}
use Rattle.object_trait.proofs.laws.sound_after_commit.Goals as goal

pub returns : goal.returns
returns c = search (c, committed-sound)
