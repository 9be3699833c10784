use Rattle.std.proofs.Common.{arith, ◌≡◌, List, [], Some, false, true, refl, ap, drop, map, sym, ◌∙◌}
use Rattle.sqlite_trees.specs.Tree.{order_of}
use Rattle.sqlite_trees.specs.View.{Advances, IsClean}
use Rattle.event_text.specs.EventText.{event_lines}
use Rattle.event_text.proofs.Groups.{no-lines}
use Rattle.journal.specs.declared.event_row.EventRow.{EventRow}
use Rattle.journal.specs.EventRow.{event_row, event_told, events_in_rows}
use Rattle.journal.specs.Rows.{value_rows}
use Rattle.journal.proofs.CursorRows.{at_end, off, on, placed, reads_only}
use Rattle.journal.proofs.EventLines.{advanced, all-read, lines-next}
use Rattle.journal.proofs.RowLemmas.{from_nothing}
use Rattle.journal.proofs.event_lines.read_lines.Goals as goal

pub loop-position-init : goal.loop-position-init
loop-position-init g c =
    let old = g.S.Store.view c.args.store.now in
    let new = g.S.Store.view c.seek.new.self in
    record {
      left = λ clean.
          let was : IsClean old = omega (arith, c.seek.ensures.quiet.clean, clean) in
          let sought = rw c.clear.ensures at c.in_ok-seek.ensures.ok clean in
          placed old new _ sought ∙ ap Some (from_nothing (order_of (old.shape 0)) (old.trees 0) ∙ c.requires.told was);
      lines = λ clean. c.new-lines.ensures.items ∙ sym no-lines;
      live = c.in_ok-seek.ensures.live;
      same = λ clean. let sought = c.in_ok-seek.ensures.ok clean in rw sought refl;
      clean = λ clean. omega (arith, c.seek.ensures.quiet.clean, clean);
      crash = λ db left. c.seek.ensures.quiet.outcomes db left;
    }

pub returns-then-not-branch-clause-lines : goal.returns-then-not-branch-clause-lines
returns-then-not-branch-clause-lines g c = λ clean.
    let old = g.S.Store.view c.loop-position.store in
    let new = g.S.Store.view c.next.new.self in
    let rows : List EventRow = map event_told ((g.S.Store.view c.args.store.now).trees 0) in
    let n = c.loop-position.position in
    let was : IsClean old = omega (arith, c.next.ensures.quiet.clean, clean) in
    let done : Advances old new 0 c.next.new.row false = off old new c.next.new.row c.in_ok-next.field-0 c.if-not-branch.true (c.in_ok-next.ensures.ok clean) in
    let none : value_rows event_row n (drop n rows) ≡ [] = at_end old new c.next.new.row done (value_rows event_row n (drop n rows)) (c.loop-position.invariant.left was) in
    c.loop-position.invariant.lines was ∙ ap (λ rs. event_lines (events_in_rows rs)) (all-read rows n none)

pub loop-position-preserved : goal.loop-position-preserved
loop-position-preserved g c =
    let first = g.S.Store.view c.args.store.now in
    let old = g.S.Store.view c.loop-position.store in
    let new = g.S.Store.view c.next.new.self in
    let rows : List EventRow = map event_told (first.trees 0) in
    let n = c.loop-position.position in
    let was : IsClean new → IsClean old = λ clean. omega (arith, c.next.ensures.quiet.clean, clean) in
    let adv : IsClean new → Advances old new 0 c.next.new.row true = λ clean. on old new c.next.new.row c.in_ok-next.field-0 c.if-not-branch.false (c.in_ok-next.ensures.ok clean) in
    record {
      left = λ clean. (advanced rows n old new c.next.new.row (adv clean) (c.loop-position.invariant.left (was clean))).1;
      lines = λ clean.
          let (left, at, next) = advanced rows n old new c.next.new.row (adv clean) (c.loop-position.invariant.left (was clean)) in
          lines-next rows n c.next.new.row left c.loop-position.lines.items c.put_lines.new.lines.items next (c.loop-position.invariant.lines (was clean)) c.in_ok-put_lines.ensures;
      live = c.in_ok-next.ensures.stay 0 c.loop-position.invariant.live;
      same = λ clean. reads_only first old new c.next.new.row (c.loop-position.invariant.same (was clean)) (adv clean);
      clean = λ clean. c.loop-position.invariant.clean (was clean);
      crash = λ db left. c.loop-position.invariant.crash db (c.next.ensures.quiet.outcomes db left);
    }
