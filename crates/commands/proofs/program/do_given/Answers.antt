use Rattle.std.proofs.Common.{◌∙◌, ap, map}
use Rattle.command_files.specs.declared.fault.Fault.TheVariants.{NoMemory}
use Rattle.commands.specs.Program.{shown}
use Rattle.commands.proofs.Done.{refused_words, same_words}
use Rattle.commands.proofs.program.do_given.Goals as goal

pub returns-in-Ok : goal.returns-in-Ok
returns-in-Ok g c =
    let before = c.args.given.now in
    let behind = c.do_read.new.given in
    let given = shown (g.S.Source.holds before.source) (g.D.Databases.holds before.databases) (g.D.Databases.holds behind.databases) (g.D.Databases.is_clean behind.databases)
    (g.I.Read.remaining before.input) (g.I.Read.remaining behind.input) (g.K.Archives.kept_in before.archives) (g.K.Archives.kept_in behind.archives) in
    same_words _ _ (g.E.Out.taken c.args.console.err) (g.E.Out.taken c.do_read.result.1.err) _ given _ _ (ap (map (λ w. w.now)) c.deref.ensures.value ∙ c.in-Ok.ensures) c.do_read.ensures

pub returns-in-Err : goal.returns-in-Err
returns-in-Err g c =
    let before = c.args.given.now in
    let kept = g.K.Archives.kept_in before.archives in
    let input = g.I.Read.remaining before.input in
    let given = shown (g.S.Source.holds before.source) (g.D.Databases.holds before.databases) (g.D.Databases.holds before.databases) (g.D.Databases.is_clean before.databases) input input kept kept in
    refused_words _ _ (g.E.Out.taken c.args.console.err) (g.E.Out.taken c.conclude.result.1.err) _ _ given _ NoMemory c.requires.nothing_taken c.requires.nothing_waits tt c.conclude.ensures
