use Rattle.committed_states.proofs.Agreeing.{committed_is_one}
use Rattle.committed_states.proofs.laws.committed_is_one.Goals as goal

pub returns : goal.returns
returns c = committed_is_one
