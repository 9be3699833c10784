use Rattle.worker_turns.proofs.Examples.{in_the_way-broken}
use Rattle.worker_turns.proofs.worked.a_broken_try_is_not_left_open.Goals as goal

pub returns-clause-aborted : goal.returns-clause-aborted
returns-clause-aborted c = in_the_way-broken
