use Rattle.jobs_text.proofs.Adding.{adds_one}
use Rattle.jobs_text.proofs.build.push_job.Goals as goal

pub returns : goal.returns
returns c = adds_one c.args.lists.now.items c.args.worker c.index_mut.result.now c.push.new.self c.args.job c.requires c.index_mut.ensures.value c.in_ok-push.ensures.items
