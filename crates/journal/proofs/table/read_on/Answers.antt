use Rattle.std.proofs.Common.{arith, ◌≡◌, ◌++◌, ◌∷◌, [], length-append, true}
use Rattle.sqlite_trees.specs.View.{IsClean, Advances}
use Rattle.journal.specs.Rows.{value_rows}
use Rattle.journal.proofs.RowLemmas.{all-rows, first-rows}
use Rattle.journal.proofs.CursorRows.{at_end, off, on, reads_row, reads_only}
use Rattle.journal.proofs.table.read_on.Goals as goal
use Rattle.journal.proofs.table.read_on.Goals.{then-len-count-via-then-len-count, then-len-count-via-else-len-count+in_ok-next+then-not-branch}

pub loop-position-preserved : goal.loop-position-preserved
loop-position-preserved g c =
    let old = g.S.Store.view c.loop-position.store in
    let new = g.S.Store.view c.next.new.self in
    let was : IsClean new → IsClean old = λ clean. omega (arith, c.next.ensures.quiet.clean) in
    let adv : IsClean new → Advances old new 0 c.next.new.row true = λ clean. on old new c.next.new.row c.in_ok-next.field-0 c.if-not-branch.false (c.in_ok-next.ensures.ok clean) in
    let entry = rw c.in-Some.is at c.in_ok-entry.ensures in
    let long = length-append c.loop-position.entries.items (c.in-Some.entry ∷ []) in
    record {
      many = rw c.in_ok-push.ensures.items (let many = c.loop-position.invariant.many in omega arith);
      short = rw c.in_ok-push.ensures.items (let short = c.loop-position.invariant.short in omega (arith, c.len.ensures, c.if-len-count.false));
      left = λ clean.
          let inv = c.loop-position.invariant.left (was clean) in
          let more = reads_row g.E.Entry.row_at old new c.next.new.row _ c.args.from c.loop-position.position c.loop-position.entries.items c.in-Some.entry
          (adv clean) inv.0 inv.1 inv.2 c.loop-position.invariant.many entry in
          (more.0, more.1, rw c.in_ok-push.ensures.items more.2);
      live = c.in_ok-next.ensures.stay 0 c.loop-position.invariant.live;
      same = λ clean. reads_only (g.S.Store.view c.args.store.now) old new c.next.new.row (c.loop-position.invariant.same (was clean)) (adv clean);
      clean = λ clean. c.loop-position.invariant.clean (was clean);
      crash = λ db left. c.loop-position.invariant.crash db (c.next.ensures.quiet.outcomes db left);
    }

pub returns-then-len-count-clause-told : goal.returns-then-len-count-clause-told
returns-then-len-count-clause-told g c =
    let es = c.loop-position.entries.items in
    let front = value_rows g.E.Entry.row_at c.args.from es in
    let inv = c.loop-position.invariant in
    elim c.then-len-count.branch [
      -- there are as many as were asked for
      | then-len-count-via-then-len-count w ↦ λ clean.
          let left = inv.left (rw w.store-is at clean) in
          (front ++ left.0, left.2, first-rows g.E.Entry.row_at c.args.count c.args.from es left.0 (omega (arith, w.if-len-count.true, c.len.ensures)))
      -- the cursor is at its end
      | then-len-count-via-else-len-count+in_ok-next+then-not-branch w ↦ λ clean.
          let old = g.S.Store.view c.loop-position.store in
          let new = g.S.Store.view w.next.new.self in
          let now : IsClean new = rw w.store-is at clean in
          let left = inv.left (omega (arith, w.next.ensures.quiet.clean, now)) in
          let done = off old new w.next.new.row w.in_ok-next.field-0 w.if-not-branch.true (w.in_ok-next.ensures.ok now) in
          let none : left.0 ≡ [] = at_end old new w.next.new.row done left.0 left.1 in
          (front ++ left.0, left.2, all-rows g.E.Entry.row_at c.args.count c.args.from es left.0 inv.short none)
    ]
