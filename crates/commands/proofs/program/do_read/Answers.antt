use Rattle.commands.specs.Program.{shown}
use Rattle.commands.proofs.Done.{does_task, refused_words}
use Rattle.commands.proofs.program.do_read.Goals as goal

pub returns-in-Ok : goal.returns-in-Ok
returns-in-Ok g c =
    let before = c.args.given.now in
    let behind = c.do_task-answer.new.given in
    let given = shown (g.S.Source.holds before.source) (g.D.Databases.holds before.databases) (g.D.Databases.holds behind.databases) (g.D.Databases.is_clean behind.databases)
    (g.I.Read.remaining before.input) (g.I.Read.remaining behind.input) (g.K.Archives.kept_in before.archives) (g.K.Archives.kept_in behind.archives) in
    does_task _ _ _ _ _ _ c.requires.nothing_taken given _ _ c.in-Ok.task _ _ c.requires.nothing_waits c.do_task-answer.ensures.err c.in-Ok.ensures.taken
    c.do_task-answer.ensures.does c.conclude.ensures

pub returns-in-Err : goal.returns-in-Err
returns-in-Err g c =
    let before = c.args.given.now in
    let kept = g.K.Archives.kept_in before.archives in
    let input = g.I.Read.remaining before.input in
    let given = shown (g.S.Source.holds before.source) (g.D.Databases.holds before.databases) (g.D.Databases.holds before.databases) (g.D.Databases.is_clean before.databases) input input kept kept in
    refused_words _ _ (g.E.Out.taken c.args.console.err) (g.E.Out.taken c.conclude-in-Err.result.1.err) _ _ given _ c.in-Err.fault c.requires.nothing_taken c.requires.nothing_waits
    c.in-Err.ensures.refused c.conclude-in-Err.ensures
