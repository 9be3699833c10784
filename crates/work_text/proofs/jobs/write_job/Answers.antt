use Rattle.work_text.proofs.jobs.write_job.Goals as goal

pub returns-in-Committed : goal.returns-in-Committed
returns-in-Committed g c = rw c.in-Committed.is c.write_committed.ensures
