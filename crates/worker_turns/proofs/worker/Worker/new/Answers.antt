use Rattle.std.proofs.Common.{refl}
use Rattle.worker_turns.proofs.worker.Worker.new.Goals as goal

pub returns-clause-tries : goal.returns-clause-tries
returns-clause-tries c = refl
