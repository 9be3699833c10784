use Rattle.type_table.proofs.Runs.{run-append}
use Rattle.type_table.proofs.laws.runs_along.Goals as goal

pub returns : goal.returns
returns c = run-append
