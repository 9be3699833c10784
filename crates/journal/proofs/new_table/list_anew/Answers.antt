use Rattle.std.proofs.Common.{refl, arith}
use Rattle.sqlite_trees.specs.View.{IsClean}
use Rattle.journal.proofs.ListedAnew.{lists-anew, may-list}
use Rattle.journal.proofs.new_table.list_anew.Goals as goal

pub relist-requires-clause-each : goal.relist-requires-clause-each
relist-requires-clause-each g c = λ clean.
    (may-list (g.S.Store.view c.args.store.now) c.args.tree _ c.requires.listed (c.requires.may clean) refl c.reals.ensures, tt)

pub returns-clause-ok : goal.returns-clause-ok
returns-clause-ok g c = λ clean.
    let was : IsClean (g.S.Store.view c.args.store.now) = omega (arith, c.relist.ensures.quiet.clean) in
    lists-anew (g.S.Store.view c.args.store.now) (g.S.Store.view c.relist.new.self) c.args.tree _ c.requires.listed (c.requires.may was) (c.in_ok-relist.ensures.ok clean)
