-- The start has a team of fresh workers.
use Rattle.std.proofs.Common.{length, map}
use Rattle.std.proofs.lemmas.List.{length-map}
use Rattle.jobs_text.specs.Jobs.{calls_in}
use Rattle.workers.proofs.Teams.{no-team, at_start}
use Rattle.workers.proofs.run.run_from_start.Goals as goal

pub new-requires-2-after_bounds : goal.new-requires-2-after_bounds
new-requires-2-after_bounds g c κs within =
    at_start g.S.HasStart.start c.args.store (map calls_in c.args.jobs.items) c.args.tries c.in-Ok.team c.requires c.in-Ok.ensures.team

pub returns-in-Err : goal.returns-in-Err
returns-in-Err g c =
    no-team g.S.HasStart.start c.args.store (map calls_in c.args.jobs.items) (length c.args.jobs.items) c.args.tries c.in-Err.fault c.new.result.items c.requires (length-map c.args.jobs.items calls_in)
    c.in-Err.ensures.refused c.new.ensures.items

pub returns : goal.returns
returns g c = c.reported.ensures.works
