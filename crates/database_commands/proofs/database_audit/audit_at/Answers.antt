use Rattle.journal.specs.Contents.{contents_of}
use Rattle.database_commands.specs.Audited.{AuditsContents}
use Rattle.database_commands.proofs.Told.{told}
use Rattle.database_commands.proofs.database_audit.audit_at.Goals as goal

pub returns-in-Ok-clause-told : goal.returns-in-Ok-clause-told
returns-in-Ok-clause-told g c =
    told c.audit_in-audited.result.0 _ _ _ _ _ _ (λ audited db. AuditsContents (contents_of db) audited.verdict audited.text.items) c.close.ensures.clean c.audit_in-audited.ensures.clean
    c.audit_in-audited.ensures.was_open c.in-Ok.ensures.held c.audit_in-audited.ensures.told
