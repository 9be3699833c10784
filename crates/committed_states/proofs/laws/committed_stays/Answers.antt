use Rattle.committed_states.proofs.Staying.{committed_stays}
use Rattle.committed_states.proofs.laws.committed_stays.Goals as goal

pub returns : goal.returns
returns c = committed_stays
