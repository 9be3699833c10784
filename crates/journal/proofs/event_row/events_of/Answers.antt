use Rattle.std.proofs.Common.{◌≡◌, ◌+◌, ◌++◌, ◌∷◌, [], ap, subst, sym, take, ◌∙◌}
use Rattle.std.proofs.lemmas.List.{take_more}
use Rattle.type_table.proofs.Elements.{each-append}
use Rattle.event_text.specs.EventText.{AreShort, IsShort}
use Rattle.journal.specs.EventRow.{events_in_row, events_in_rows}
use Rattle.journal.proofs.EventPlaces.{events-more}
use Rattle.journal.proofs.event_row.events_of.Goals as goal

pub loop-row-preserved : goal.loop-row-preserved
loop-row-preserved c =
    let rows = c.args.rows.now in
    let i = c.loop-row.row-index in
    let row = c.row-item.result in
    let more : take (i + 1) rows ≡ take i rows ++ row ∷ [] = take_more rows i row c.loop-row-test.true ∙ ap (λ y. take i rows ++ y ∷ []) (sym c.row-item.is) in
    record {
      events = c.in_ok-put_behind.ensures.behind ∙ ap (λ front. front ++ events_in_row row) c.loop-row.invariant.events ∙ sym (ap events_in_rows more ∙ events-more (take i rows) row);
      short = subst AreShort (sym c.in_ok-put_behind.ensures.behind) (each-append IsShort c.loop-row.events.items (events_in_row row) c.loop-row.invariant.short c.put_behind.ensures.short);
    }
