use Rattle.std.proofs.Common.{◌∙◌, ap, map, subst}
use Rattle.event_text.specs.EventText.{events_of_kinds}
use Rattle.history_judge.specs.Audit as history
use Rattle.journal.specs.Said.{contents}
use Rattle.store_commands.specs.StoreAudit.{table_of_checked}
use Rattle.database_commands.proofs.Told.{is_audit, told_of}
use Rattle.database_commands.proofs.database_audit.audit_of.Goals as goal

pub returns-clause-told : goal.returns-clause-told
returns-clause-told c =
    let said = contents c.args.said.now in
    let happened = c.deref-3.result.now in
    let outcome = c.audit_types-outcome.result in
    let audits = subst (λ ts. history.Audits (map table_of_checked ts) happened outcome) c.deref-2.ensures.value c.audit_types-outcome.ensures in
    let same = c.deref-3.ensures.value ∙ c.in_ok-events.ensures ∙ ap events_of_kinds c.deref.ensures.value in
    told_of c.told.result said outcome c.in_ok-text.text.items (λ audited. audited.verdict) (λ audited. audited.text.items)
    (is_audit said c.in-Ok.types.items happened outcome c.in_ok-text.text.items c.in-Ok.ensures.types same audits c.in_ok-text.ensures.text) c.told.ensures.verdict c.told.ensures.text
