use Rattle.std.proofs.Common.{◌+◌, arith}
use Rattle.std.proofs.lemmas.List.{drop_all}
use Rattle.jobs_text.proofs.Taken.{slice_behind}
use Rattle.jobs_text.proofs.Adding.{more_so_far, all_so_far}
use Rattle.jobs_text.proofs.build.jobs_of.Goals as goal

pub loop-position-preserved : goal.loop-position-preserved
loop-position-preserved c =
    more_so_far c.args.workers c.args.lines.now _ c.loop-position.position c.index-lines-position.result c.loop-position.lists.items c.add_job.new.lists.items c.loop-position-test.true c.index-lines-position.is (slice_behind c.args.lines.now (c.loop-position.position + 1)) c.loop-position.invariant c.in_ok-add_job.ensures

pub returns : goal.returns
returns c =
    all_so_far c.args.workers c.args.lines.now c.loop-position.position c.loop-position.lists.items (drop_all c.loop-position.position c.args.lines.now (omega (arith, c.loop-position-test.false))) c.loop-position.invariant
