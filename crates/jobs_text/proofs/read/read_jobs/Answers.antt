use Rattle.std.proofs.Common.{◌≡◌, ◌∙◌, true, subst, sym}
use Rattle.std.specs.List.{AllByRecursion}
use Rattle.store_text.specs.Size.{may_have}
use Rattle.jobs_text.specs.JobLines.{is_in_range}
use Rattle.jobs_text.specs.Jobs.{AreJobsOf}
use Rattle.jobs_text.proofs.Fit.{is_fit}
use Rattle.jobs_text.proofs.read.read_jobs.Goals as goal

pub jobs_of-requires : goal.jobs_of-requires
jobs_of-requires c =
    let objects = may_have c.in_ok-parts.parts.size in
    (objects, subst (AllByRecursion (λ line. is_in_range c.args.workers objects line ≡ true)) (sym (c.deref.ensures.value ∙ c.shrink_to_fit.ensures.items)) c.in_ok-parts.ensures.fit.in_range)

pub returns-in-Ok-clause-fit : goal.returns-in-Ok-clause-fit
returns-in-Ok-clause-fit c =
    let jobs = c.in-Ok.jobs in
    is_fit c.args.workers c.in_ok-parts.parts jobs c.in_ok-parts.ensures.fit
    (subst (λ lines. AreJobsOf c.args.workers lines jobs.items) (c.deref.ensures.value ∙ c.shrink_to_fit.ensures.items) c.in-Ok.ensures)
