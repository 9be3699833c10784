use Rattle.object_trait.proofs.Meanings.{opens-commuting}
use Rattle.object_trait.proofs.laws.opens_commute.Goals as goal

pub returns : goal.returns
returns c = opens-commuting c.lists_forward.ensures
