use Rattle.vote_laws.proofs.Decisions.{known_is_answered}
use Rattle.vote_laws.proofs.laws.what_is_decided_stays.Goals as goal

pub returns : goal.returns
returns c = known_is_answered
