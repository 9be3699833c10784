use Rattle.workers.proofs.Endings.{ending_is_worked}
use Rattle.workers.proofs.laws.ending_is_worked.Goals as goal

-- what comes back at the end
pub returns : goal.returns
returns c = ending_is_worked
