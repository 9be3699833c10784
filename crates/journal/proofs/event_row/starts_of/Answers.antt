use Rattle.std.proofs.Common.{◌≡◌, ◌+◌, ◌++◌, ◌∷◌, [], ap, arith, length, length-append, sym, take, ◌∙◌}
use Rattle.std.proofs.lemmas.List.{take_more}
use Rattle.journal.specs.EventRow.{events_in_row, events_in_rows, row_starts}
use Rattle.journal.proofs.EventPlaces.{events-more, starts-more}
use Rattle.journal.proofs.event_row.starts_of.Goals as goal

pub loop-row-preserved : goal.loop-row-preserved
loop-row-preserved c =
    let rows = c.args.rows.now in
    let i = c.loop-row.row-index in
    let row = c.row-item.result in
    let before = take i rows in
    let more : take (i + 1) rows ≡ before ++ row ∷ [] = take_more rows i row c.loop-row-test.true ∙ ap (λ y. before ++ y ∷ []) (sym c.row-item.is) in
    let next : c.loop-row.start ≡ 0 + length (events_in_rows before) = omega (arith, c.loop-row.invariant.next) in
    record {
      starts = c.in_ok-push.ensures.items
          ∙ ap (λ front. front ++ c.loop-row.start ∷ []) c.loop-row.invariant.starts
          ∙ ap (λ n. row_starts 0 before ++ n ∷ []) next
          ∙ sym (ap (row_starts 0) more ∙ starts-more 0 before row);
      next =
          let all = ap length (ap events_in_rows more ∙ events-more before row) in
          omega (arith, c.in-Some.ensures.1, c.loop-row.invariant.next, c.count.ensures, all, length-append (events_in_rows before) (events_in_row row));
    }
