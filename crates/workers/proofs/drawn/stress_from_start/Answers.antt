-- The start has a team of fresh workers.
use Rattle.std.proofs.Common.{length, map}
use Rattle.std.proofs.lemmas.List.{length-map}
use Rattle.jobs_text.specs.Jobs.{calls_in}
use Rattle.workers.proofs.Teams.{no-team, at_start, untouched}
use Rattle.workers.proofs.drawn.stress_from_start.Goals as goal

pub new-shared-requires-after_bounds : goal.new-shared-requires-after_bounds
new-shared-requires-after_bounds g c κs within =
    at_start g.S.HasStart.start c.args.store (map calls_in c.args.jobs.items) c.args.tries c.in-Ok.team c.requires c.in-Ok.ensures.team

pub returns-in-Err-clause-works : goal.returns-in-Err-clause-works
returns-in-Err-clause-works g c =
    no-team g.S.HasStart.start c.args.store (map calls_in c.args.jobs.items) (length c.args.jobs.items) c.args.tries c.in-Err.fault c.new.result.items c.requires (length-map c.args.jobs.items calls_in)
    c.in-Err.ensures.refused c.new.ensures.items

pub returns-in-Err-clause-whole : goal.returns-in-Err-clause-whole
returns-in-Err-clause-whole g c = λ fault is. untouched g.S.HasStart.start c.args.store (map calls_in c.args.jobs.items) c.args.tries c.new.result.items c.requires c.new.ensures.items

pub returns-clause-works : goal.returns-clause-works
returns-clause-works g c = c.reported.ensures.works
