use Rattle.std.proofs.Common.{refl}
use Rattle.history_judge.proofs.serial_run.SerialRun.outcome.Goals as goal

pub returns-in-None : goal.returns-in-None
returns-in-None c = rw c.in-None.is (refl, refl)
