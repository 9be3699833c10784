use Rattle.std.proofs.Common.{arith, ◌≡◌, ◌∷◌, [], Some, ap, ◌∙◌, drop, map, sym, take}
use Rattle.std.specs.Prelude.{pos}
use Rattle.std.proofs.lemmas.Option.{same_Some}
use Rattle.std.proofs.lemmas.Result.{IfOk-weaker}
use Rattle.sqlite_value.specs.Keys.{plain}
use Rattle.sqlite_value.specs.declared.value.Value.TheVariants.{Int}
use Rattle.sqlite_trees.specs.View.{IsClean}
use Rattle.sqlite_trees.specs.Tree.{from_key}
use Rattle.journal.specs.Rows.{value_rows}
use Rattle.journal.proofs.RowLemmas.{from_position, told-first}
use Rattle.journal.proofs.CursorRows.{placed}
use Rattle.journal.proofs.table.read_from.Goals as goal

pub returns-clause-told : goal.returns-clause-told
returns-clause-told g c = IfOk-weaker c.read_on.result _ _ (λ entries told clean.
    let old = g.S.Store.view c.args.store.now in
    let middle : IsClean (g.S.Store.view c.seek.new.self) = c.read_on.ensures.clean clean in
    let was : IsClean old = omega (arith, c.seek.ensures.quiet.clean) in
    let row_at = g.E.Entry.row_at in
    let from = c.args.from in
    let all = map g.E.Entry.told_by (old.trees c.args.table) in
    let (given, there, first) = told clean in
    let sought = rw (c.in_ok-begin_key.ensures, c.requires.shape was) at c.in_ok-seek.ensures.ok middle in
    let start : (g.S.Store.view c.seek.new.self).cursors 0 ≡ Some (value_rows row_at from (drop from all)) =
    placed old (g.S.Store.view c.seek.new.self) _ sought ∙ ap (λ es. Some (from_key plain (Int (pos from) ∷ []) es)) (c.requires.told was)
    ∙ ap Some (from_position row_at g.met.E.Entry.keyed from 0 from all (omega arith)) in
    let same : given ≡ value_rows row_at from (drop from all) = same_Some given (value_rows row_at from (drop from all)) (sym there ∙ start) in
    told-first row_at g.E.Entry.told_by g.met.E.Entry.read_back from c.args.count entries.items (drop from all) (first ∙ ap (take c.args.count) same)) c.read_on.ensures.told
