use Rattle.script_run.proofs.Aborts.{none-open}
use Rattle.script_run.proofs.laws.closing_ends.Goals as goal

pub returns : goal.returns
returns c = λ objects H t run. none-open c.run_goes_on.ensures c.summary_after.ensures c.transactions_in_run.ensures c.opens_after.ensures objects H t run
