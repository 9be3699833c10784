use Rattle.std.proofs.Common.{refl, arith}
use Rattle.sqlite_trees.specs.View.{IsClean}
use Rattle.journal.proofs.Emptied.{free, empties}
use Rattle.journal.proofs.new_table.make_anew.Goals as goal

pub create-requires : goal.create-requires
create-requires g c = λ clean.
    let was : IsClean (g.S.Store.view c.args.store.now) = omega (arith, c.destroy.ensures.quiet.clean) in
    free (g.S.Store.view c.args.store.now) (g.S.Store.view c.destroy.new.self) c.args.tree _ c.requires.remade (c.requires.may was) (c.in_ok-destroy.ensures.ok clean) refl

pub returns-clause-ok : goal.returns-clause-ok
returns-clause-ok g c = λ clean.
    let between : IsClean (g.S.Store.view c.destroy.new.self) = omega (arith, c.create.ensures.quiet.clean) in
    let was : IsClean (g.S.Store.view c.args.store.now) = omega (arith, c.destroy.ensures.quiet.clean) in
    empties (g.S.Store.view c.args.store.now) (g.S.Store.view c.destroy.new.self) (g.S.Store.view c.create.new.self) c.args.tree _ _ _ c.requires.remade (c.requires.may was) (c.in_ok-destroy.ensures.ok between) (c.in_ok-create.ensures.ok clean) refl refl
