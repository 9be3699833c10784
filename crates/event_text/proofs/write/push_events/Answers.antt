use Rattle.std.proofs.Common.{◌≡◌, ◌+◌, ◌++◌, ◌∷◌, [], ap, append-nil, append_assoc, sym, subst, take, ◌∙◌}
use Rattle.std.proofs.lemmas.List.{take_more}
use Rattle.type_table.proofs.Elements.{each-push}
use Rattle.event_text.specs.EventText.{AreShort, IsShort, line_in_row, event_lines}
use Rattle.event_text.proofs.Groups.{lines-more, no-lines}
use Rattle.event_text.proofs.write.push_events.Goals as goal

pub loop-event-init : goal.loop-event-init
loop-event-init c = record { lines = sym (ap (λ more. c.args.text.now.items ++ more) no-lines ∙ append-nil c.args.text.now.items); short = tt }

pub loop-event-preserved : goal.loop-event-preserved
loop-event-preserved c =
    let events = c.args.events.now in
    let i = c.loop-event.event-index in
    let e = c.event-item.result in
    let old = c.args.text.now.items in
    let more : take (i + 1) events ≡ take i events ++ e ∷ [] = take_more events i e c.loop-event-test.true ∙ ap (λ y. take i events ++ y ∷ []) (sym c.event-item.is) in
    record {
      lines = c.in_ok-push_event.ensures.line
          ∙ ap (λ front. front ++ line_in_row e) c.loop-event.invariant.lines
          ∙ append_assoc old (event_lines (take i events)) (line_in_row e)
          ∙ ap (λ lines. old ++ lines) (sym (ap event_lines more ∙ lines-more (take i events) e));
      short = subst AreShort (sym more) (each-push IsShort (take i events) e c.loop-event.invariant.short c.push_event.ensures.short);
    }
