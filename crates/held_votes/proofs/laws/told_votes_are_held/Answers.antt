use Rattle.serving.specs.Acknowledged.{AreLast}
use Rattle.held_votes.proofs.VotesHeld.{votes-held}
use Rattle.held_votes.proofs.laws.told_votes_are_held.Goals as goal

pub returns : goal.returns
returns g c b all ended given_now seen rest half lines answers now began asked survives = votes-held g.S.Store b (AreLast all ended given_now) seen rest half lines answers now began asked survives
