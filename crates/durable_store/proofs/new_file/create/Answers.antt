use Rattle.std.proofs.Common.{subst, sym}
use Rattle.sqlite_trees.specs.View.{IsClean}
use Rattle.journal.specs.Contents.{contents_of}
use Rattle.durable_store.specs.Created.{IsNewFile}
use Rattle.durable_store.proofs.new_file.create.Goals as goal

pub returns-in-Ok-create-clause-created : goal.returns-in-Ok-create-clause-created
returns-in-Ok-create-clause-created g c = λ clean.
    let was = subst (λ trees. IsClean (g.S.Store.view trees)) c.into_store.ensures clean in
    subst (λ trees. IsNewFile c.args.id c.args.texts.items c.args.lines.items (contents_of (g.S.Store.view trees).committed)) (sym c.into_store.ensures)
    (subst (IsNewFile c.args.id c.args.texts.items c.args.lines.items) (sym (c.in-Ok-create.ensures.said was)) c.in-Ok.ensures)
