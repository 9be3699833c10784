use Rattle.store_laws.proofs.Asked.{asked-is-replayed}
use Rattle.store_laws.proofs.laws.asked_is_replayed.Goals as goal

pub returns : goal.returns
returns c = asked-is-replayed
