use Rattle.std.proofs.Common.{◌∙◌, ap, ap₂, subst}
use Rattle.std.proofs.lemmas.Result.{IfOk-weaker}
use Rattle.event_text.specs.EventText.{AreShort, event_lines}
use Rattle.epoch_text.specs.EpochText.{text_with_lines}
use Rattle.journal.specs.Contents.{Contents}
use Rattle.journal.specs.Journal.{written}
use Rattle.serving.proofs.epoch.epoch_text.Goals as goal

pub returns-clause-text : goal.returns-clause-text
returns-clause-text g c = IfOk-weaker c.text_of.result _ _ (λ text is now.
    let at_mid = c.in_ok-lines.ensures.clean now in
    let same = c.in_ok-objects.ensures.written at_mid in
    let all = written g.S.Store c.args.store.now.journal in
    is ∙ ap₂ text_with_lines (c.deref.ensures.value ∙ c.in_ok-objects.ensures.said at_mid) (c.deref-2.ensures.value ∙ c.in_ok-lines.ensures.said now ∙ ap (λ (c : Contents). event_lines c.events) same)
    ∙ c.lines_are_canonical.ensures.text all.objects all.events (subst (λ (c : Contents). AreShort c.events) same (c.in_ok-lines.ensures.short now))) c.text_of.ensures
