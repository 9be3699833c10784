use Rattle.std.proofs.Common.{◌∙◌, ap, subst}
use Rattle.std.specs.List.{flat_map}
use Rattle.event_text.specs.EventText.{events_of_kinds}
use Rattle.key_commands.specs.Prepared.{AreHeldTransactions, held_line}
use Rattle.key_commands.proofs.Tells.{tells_prepared}
use Rattle.key_commands.proofs.prepared_list.lines_at.Goals as goal

pub returns-clause-told : goal.returns-clause-told
returns-clause-told g c =
    let r = c.in_ok-reading.reading in
    let told = c.in_ok-held.held.items in
    let those = subst (λ ps. AreHeldTransactions (events_of_kinds c.deref.result.now) ps told) c.deref-2.ensures.value c.in_ok-held.ensures in
    tells_prepared _ _ _ r told c.in_ok-text.text.items c.in_ok-reading.ensures.found (subst (λ ks. AreHeldTransactions (events_of_kinds ks) r.held.items told) c.deref.ensures.value those)
    (c.in_ok-text.ensures.text ∙ ap (flat_map held_line) c.deref-3.ensures.value)
