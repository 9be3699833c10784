use Rattle.std.proofs.Common.{ap, inl, sym}
use Rattle.outputs.specs.Gathered.{taken_by}
use Rattle.serve_command.proofs.ArchivedEpochs.{archives-under}
use Rattle.serve_command.proofs.ServedLemmas.{comes-under, says-under}
use Rattle.serve_command.proofs.Unserved.{fails-under, unopened}
use Rattle.serve_command.proofs.serve.serve_database.Goals as goal

pub returns-in-Ok-clause-comes : goal.returns-in-Ok-clause-comes
returns-in-Ok-clause-comes g c =
    let held = g.D.Databases.holds c.args.databases.now c.args.asked.path.now in
    comes-under c.args.asked.outcomes held (g.D.Databases.holds c.let_go.new.databases c.args.asked.path.now) _ _ (g.I.Read.remaining c.args.input.now) (g.I.Read.remaining c.serve_in-served.new.input) c.serve_in-served.result.0
    (ap (taken_by g.W.Out.taken) c.new-client.ensures) (ap (taken_by g.W.Out.taken) (sym c.into_out.ensures)) c.let_go.ensures.clean c.let_go.ensures.held c.let_go.ensures.left
    (c.serve_in-served.ensures.comes held c.in-Ok.ensures.held)

pub returns-in-Ok-clause-says : goal.returns-in-Ok-clause-says
returns-in-Ok-clause-says g c =
    let held = g.D.Databases.holds c.args.databases.now c.args.asked.path.now in
    says-under held c.serve_in-served.result.0 c.args.asked.path.now (g.E.Out.taken c.args.err.now) (g.E.Out.taken c.serve_in-served.new.err) c.let_go.ensures.clean
    (c.serve_in-served.ensures.says held c.in-Ok.ensures.held)

pub returns-in-Ok-clause-archives : goal.returns-in-Ok-clause-archives
returns-in-Ok-clause-archives g c =
    let held = g.D.Databases.holds c.args.databases.now c.args.asked.path.now in
    archives-under c.args.asked.outcomes held (g.D.Databases.holds c.let_go.new.databases c.args.asked.path.now) _ c.serve_in-served.result.0 (g.A.Archive.kept c.args.archive.now) (g.A.Archive.kept c.serve_in-served.new.archive)
    c.let_go.ensures.clean c.let_go.ensures.held (c.serve_in-served.ensures.archives held c.in-Ok.ensures.held)

pub returns-in-Ok-clause-left : goal.returns-in-Ok-clause-left
returns-in-Ok-clause-left g c =
    let held = g.D.Databases.holds c.args.databases.now c.args.asked.path.now in
    fails-under c.args.asked.outcomes held (g.D.Databases.holds c.let_go.new.databases c.args.asked.path.now) _ (g.I.Read.remaining c.args.input.now) (g.I.Read.remaining c.serve_in-served.new.input) c.serve_in-served.result.0
    c.in-Ok.ensures.clean c.let_go.ensures.clean c.let_go.ensures.before c.let_go.ensures.left (c.serve_in-served.ensures.left held c.in-Ok.ensures.held c.in-Ok.ensures.left)

pub returns-in-Err-clause-left : goal.returns-in-Err-clause-left
returns-in-Err-clause-left g c =
    let path = c.args.asked.path.now in
    inl (unopened c.args.asked.outcomes (g.D.Databases.is_clean c.open.new.self) (g.D.Databases.holds c.args.databases.now path) (g.D.Databases.holds c.open.new.self path) (c.in-Err.ensures.kept path))
