use Rattle.carried_runs.proofs.Telling.{logs_tell_carried}
use Rattle.carried_runs.proofs.laws.logs_tell_carried.Goals as goal

pub returns : goal.returns
returns c = logs_tell_carried
