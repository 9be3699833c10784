use Rattle.std.proofs.Common.{◌∙◌, sym, subst, IsTrue, refl}
use Rattle.sqlite_value.specs.Order.{Row}
use Rattle.sqlite_trees.specs.View.{is_int}
use Rattle.sqlite_trees.specs.Tree.{rowid}
use Rattle.journal.proofs.table.append.Goals as goal

pub put-requires-clause-keyed : goal.put-requires-clause-keyed
put-requires-clause-keyed g c = λ clean.
    let keyed = g.met.E.Entry.keyed c.args.position c.args.entry.now in
    subst (λ (r : Row). IsTrue (is_int (rowid r))) (sym (c.in_ok-fill.ensures ∙ keyed.1)) refl
