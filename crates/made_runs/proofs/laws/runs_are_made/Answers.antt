use Rattle.made_runs.proofs.Making.{runs_are_made}
use Rattle.made_runs.proofs.laws.runs_are_made.Goals as goal

pub returns : goal.returns
returns c = runs_are_made c.runs_along.ensures c.legal_ends.ensures c.command_appends.ensures.accepted c.replays_join.ensures
