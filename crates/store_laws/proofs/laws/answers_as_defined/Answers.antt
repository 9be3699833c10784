use Rattle.store_laws.proofs.Words.{answers_as_defined}
use Rattle.store_laws.proofs.laws.answers_as_defined.Goals as goal

-- a call is answered as the history defines it
pub returns : goal.returns
returns c = answers_as_defined c.allows_alike.ensures c.stopper_is_blocker.ensures
