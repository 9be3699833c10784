use Rattle.carried_runs.proofs.Showing.{carried_shows}
use Rattle.carried_runs.proofs.laws.carried_shows.Goals as goal

pub returns : goal.returns
returns c = carried_shows
