use Rattle.std.proofs.Common.{Result, subst}
use Rattle.history_audit.specs.Text.{audit_text}
use Rattle.history_judge.specs.declared.outcome.Audit.{Audit}
use Rattle.history_judge.specs.declared.outcome.AuditFault.{AuditFault}
use Rattle.std.specs.Io.KnownBytes.{Appends}
use Rattle.store_commands.specs.StoreAudit.{IsPassed}
use Rattle.store_commands.proofs.store_audit.tell_audit.Goals as goal

pub returns-in-Ok : goal.returns-in-Ok
returns-in-Ok g c =
    let store = c.args.store.now in
    let Passed : Result Audit AuditFault → Type 0 = λ r. IsPassed store r in
    let Wrote : Result Audit AuditFault → Type 0 = λ r. Appends (g.W.Out.taken c.args.out.now) (g.W.Out.taken c.write_audit.new.out) (audit_text r) in
    (c.in-Ok.field-0, subst Passed c.in-Ok.is c.audit_of-outcome.ensures, subst Wrote c.in-Ok.is c.in_ok-write_audit.ensures.whole)
