use Rattle.workers.proofs.Examples.{first-committed}
use Rattle.workers.proofs.worked.a_job_that_was_run.Goals as goal

-- by its receipts and its outcome
pub returns-clause-committed : goal.returns-clause-committed
returns-clause-committed c = first-committed
