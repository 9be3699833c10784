use Rattle.sqlite_trees.specs.View.{IsClean}
use Rattle.journal.specs.Contents.{contents_of}
use Rattle.journal.specs.Journal.{durable}
use Rattle.database_commands.proofs.Extensions.{grown-in}
use Rattle.database_commands.proofs.more_objects.grow.Goals as goal

pub returns-in-Ok-clause-extended : goal.returns-in-Ok-clause-extended
returns-in-Ok-clause-extended g c =
    grown-in g.S.Store (durable g.S.Store c.args.journal) c.in-Ok.store c.args.texts.now c.args.objects.now c.extend.result.0 (IsClean (g.S.Store.view c.extend.result.1)) (contents_of (g.S.Store.view c.extend.result.1).committed) c.in-Ok.ensures.found
    c.extend.ensures.clean c.extend.ensures.grows
