use Rattle.std.proofs.Common.{[], refl}
use Rattle.worker_turns.specs.Examples.{in_the_way}
use Rattle.worker_turns.proofs.Examples.{in_the_way-broken, second-commits}
use Rattle.worker_turns.proofs.worked.a_job_is_tried_again.Goals as goal

pub returns-clause-committed : goal.returns-clause-committed
returns-clause-committed c = second-commits

pub returns-clause-given_up : goal.returns-clause-given_up
returns-clause-given_up c = ([], in_the_way, refl, refl, in_the_way-broken)
