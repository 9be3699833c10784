use Rattle.vote_laws.proofs.Votes.{vote_stays}
use Rattle.vote_laws.proofs.laws.votes_stay.Goals as goal

pub returns : goal.returns
returns c = vote_stays
