use Rattle.committed_states.proofs.Staying.{closed_is_committed}
use Rattle.committed_states.proofs.laws.closed_is_committed.Goals as goal

pub returns : goal.returns
returns c = closed_is_committed c.runs_along.ensures c.states_are_inside.ensures
