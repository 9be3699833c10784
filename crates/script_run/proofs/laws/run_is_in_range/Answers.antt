use Rattle.script_run.proofs.Ranges.{run-in_range}
use Rattle.script_run.proofs.laws.run_is_in_range.Goals as goal

pub returns : goal.returns
returns c = run-in_range c.numbers_in_run.ensures
