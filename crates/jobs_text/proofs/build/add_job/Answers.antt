use Rattle.jobs_text.proofs.Adding.{adds_opened, adds_unopened}
use Rattle.jobs_text.proofs.build.add_job.Goals as goal

pub returns-in_ok-push_job : goal.returns-in_ok-push_job
returns-in_ok-push_job c =
    adds_opened c.args.lists.now.items c.push_job.new.lists.items c.args.line c.args.behind.now c.in-Job.worker c.in_ok-calls.calls.items c.in-Job.is c.in_ok-calls.ensures c.in_ok-push_job.ensures

pub returns-in_default : goal.returns-in_default
returns-in_default c = adds_unopened c.args.lists.now.items c.args.line c.args.behind.now c.in_default.not-Job
