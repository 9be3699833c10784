use Rattle.std.proofs.Common.{◌≡◌, Some, None, sym, subst}
use Rattle.type_table.specs.Table.{first_op}
use Rattle.declared_types.specs.declared.type_file.TypeFile.{TypeFile}
use Rattle.object_trait.specs.Meaning.{object}
use Rattle.store.proofs.Peeking.{object-here, peek-comes}
use Rattle.store.proofs.store.Store.peek_bytes.Goals as goal

pub returns-in-Some-by_name : goal.returns-in-Some-by_name
returns-in-Some-by_name g c =
    let m = g.R.Recovery.meaning c.in-Some.object.now in
    let first = c.in-Some-by_name.call.first in
    let named : first_op m.checked.file.table c.args.name.now ≡ Some first =
    subst (λ (f : TypeFile). first_op f.table c.args.name.now ≡ Some first) c.declared.ensures.exact
    (sym c.in-Some-by_name.ensures.named) in
    peek-comes c.still_changes_nothing.ensures c.args.self.now c.args.x c.args.name.now m first c.in-Some.ensures named c.peeked.result c.peeked.ensures

pub returns-in-None : goal.returns-in-None
returns-in-None g c =
    let m = g.R.Recovery.meaning c.in-Some.object.now in
    let none : first_op m.checked.file.table c.args.name.now ≡ None =
    subst (λ (f : TypeFile). first_op f.table c.args.name.now ≡ None) c.declared.ensures.exact
    (sym c.in-None.ensures.named) in
    (object m, object-here c.args.self.now c.args.x m c.in-Some.ensures, none)
