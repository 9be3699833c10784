use Rattle.std.proofs.Common.{inr}
use Rattle.serve_command.proofs.ArchivedEpochs.{keeps-at}
use Rattle.serve_command.proofs.ServedLemmas.{of-fault}
use Rattle.serving.proofs.Results.{of-ok}
use Rattle.serve_command.proofs.serve.serve_store.Goals as goal

pub returns-in-Ok-served-clause-told : goal.returns-in-Ok-served-clause-told
returns-in-Ok-served-clause-told g c = record { now = c.serve-store.result.0; are = c.into_trees-trees.ensures; clean = c.serve-store.ensures.clean; sound = of-ok c.serve-store.result.1 c.in-Ok-served.field-0 c.in-Ok-served.is c.serve-store.ensures.sound; shows = of-ok c.serve-store.result.1 c.in-Ok-served.field-0 c.in-Ok-served.is c.serve-store.ensures.shows; serves = of-ok c.serve-store.result.1 c.in-Ok-served.field-0 c.in-Ok-served.is c.serve-store.ensures.told }

pub returns-clause-cut : goal.returns-clause-cut
returns-clause-cut g c =
    let safely = of-fault _ c.serve-store.result.1 c.in-Err.fault c.in-Err.is c.serve-store.ensures.acknowledged in
    inr (
      c.fault_of_serving.ensures,
      record {
        now = c.serve-store.result.0;
        are = c.into_trees-trees.ensures;
        clean = c.serve-store.ensures.clean;
        stops = safely.stops;
        left = safely.safe c.requires.shows;
        found = λ clean. c.told_commits_are_found.ensures _ _ _ _ safely.stops.read.seen safely.stops.read.rest safely.stops.read.half safely.stops.lines safely.stops.answers c.serve-store.result.0 safely.stops.read.asked
            (safely.safe c.requires.shows clean);
      },
    )

pub returns-in-Ok-served-clause-archives : goal.returns-in-Ok-served-clause-archives
returns-in-Ok-served-clause-archives g c =
    keeps-at g.S.Store c.args.store c.serve-store.result.0 c.into_trees-trees.result (g.A.Archive.kept c.args.archive.now) (g.A.Archive.kept c.serve-store.new.archive) c.into_trees-trees.ensures
    (of-ok c.serve-store.result.1 c.in-Ok-served.field-0 c.in-Ok-served.is c.serve-store.ensures.shows) (of-ok c.serve-store.result.1 c.in-Ok-served.field-0 c.in-Ok-served.is c.serve-store.ensures.archives)
