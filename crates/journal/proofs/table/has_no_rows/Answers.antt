use Rattle.std.proofs.Common.{arith, ◌≡◌, ◌∙◌, [], Some, true, false, not, Bool, IsTrue, sym, ap}
use Rattle.std.proofs.lemmas.Option.{same_Some}
use Rattle.sqlite_value.specs.Order.{Row}
use Rattle.sqlite_trees.specs.Tree.{order_of}
use Rattle.sqlite_trees.specs.View.{Advances, IsClean, View}
use Rattle.journal.proofs.CursorRows.{placed}
use Rattle.journal.proofs.RowLemmas.{from_nothing}
use Rattle.journal.proofs.table.has_no_rows.Goals as goal

-- a cursor that gave no row was at its end
none-given : (old new : View) (row : Row) (found : Bool) → IsTrue (not found) → Advances old new 0 row found → old.cursors 0 ≡ Some []
none-given old new row true none adv = absurd (cc)
none-given old new row false none adv = adv.0

pub returns-clause-told : goal.returns-clause-told
returns-clause-told g c none clean =
    let old = g.S.Store.view c.args.store.now in
    let mid = g.S.Store.view c.seek.new.self in
    let new = g.S.Store.view c.next.new.self in
    let was : IsClean mid = omega (arith, c.next.ensures.quiet.clean, clean) in
    let sought = rw c.clear.ensures at c.in_ok-seek.ensures.ok was in
    let start = placed old mid _ sought ∙ ap Some (from_nothing (order_of (old.shape c.args.table)) (old.trees c.args.table)) in
    same_Some (old.trees c.args.table) [] (sym start ∙ none-given mid new c.next.new.row c.in_ok-next.field-0 none (c.in_ok-next.ensures.ok clean))
