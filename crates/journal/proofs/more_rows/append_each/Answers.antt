use Rattle.std.proofs.Common.{length, refl, ap, ◌∙◌}
use Rattle.std.proofs.lemmas.Option.{slice_get_read}
use Rattle.sqlite_trees.specs.View.{View}
use Rattle.journal.proofs.MoreRows.{one-behind}
use Rattle.journal.proofs.more_rows.append_each.Goals as goal

pub loop-i-preserved : goal.loop-i-preserved
loop-i-preserved g c =
    let entries = c.args.entries.now in
    let i = c.loop-i.i in
    let low = c.loop-i-test.true in
    let there = slice_get_read entries (length entries) i c.index-entries-i.result refl low c.index-entries-i.is in
    record {
      behind = λ clean. one-behind g.E.Entry.row_at g.met.E.Entry.keyed (g.S.Store.view c.args.store.now) (g.S.Store.view c.loop-i.store) (g.S.Store.view c.append.new.store) c.args.table c.args.from i entries
          c.index-entries-i.result (c.loop-i.invariant.behind (c.append.ensures.clean clean)) there low (c.in_ok-append.ensures.ok clean);
      shape = λ clean. ap (λ (v : View). v.shape c.args.table) (c.in_ok-append.ensures.ok clean).is ∙ c.loop-i.invariant.shape (c.append.ensures.clean clean);
      clean = λ clean. c.loop-i.invariant.clean (c.append.ensures.clean clean);
      crash = λ db left. c.loop-i.invariant.crash db (c.append.ensures.crash db left);
    }
