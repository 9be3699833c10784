use Rattle.std.proofs.Common.{◌≡◌, ◌∙◌, Result, Ok, false, inr, rules, subst, sym}
use Rattle.history_judge.specs.declared.outcome.Audit.{Audit}
use Rattle.history_judge.specs.declared.outcome.AuditFault.{AuditFault}
use Rattle.work_text.specs.Text.{PutsWork}
use Rattle.store_commands.specs.StoreAudit.{IsPassed}
use Rattle.store_commands.proofs.Works.{whole_text}
use Rattle.store_commands.proofs.work.tell_work.Goals as goal

pub returns-in-None-Ok : goal.returns-in-None-Ok
returns-in-None-Ok g c =
    let store = c.args.store.now in
    let Passed : Result Audit AuditFault → Type 0 = λ r. IsPassed store r in
    let Puts : Result Audit AuditFault → Type 0 = λ r. PutsWork store c.args.objects.now r c.args.reports.now (g.W.Out.taken c.args.out.now) (g.W.Out.taken c.write_work.new.out)
    (g.W.Out.fault c.write_work.new.out) (Ok c.in_ok-write_work.field-0) in
    let whole = whole_text store c.args.objects.now c.args.reports.now (Ok c.in-None-Ok.field-0-1) _ _ _ c.in_ok-write_work.field-0
    (subst Puts c.in-None-Ok.is-1 c.in_ok-write_work.ensures) in
    (c.in-None-Ok.is-0, c.in-None-Ok.field-0-1, subst Passed c.in-None-Ok.is-1 c.audit_of-audit.ensures, whole.0, whole.1, whole.2)

pub returns : goal.returns
returns g c =
    let some : c.did_nothing.result ≡ false = search rules in
    let whole = whole_text c.args.store.now c.args.objects.now c.args.reports.now c.audit_of-audit.result _ _ _ c.in_ok-write_work.field-0 c.in_ok-write_work.ensures in
    inr (sym c.did_nothing.ensures ∙ some, c.audit_of-audit.result, c.audit_of-audit.ensures, whole.0, whole.1, whole.2)
