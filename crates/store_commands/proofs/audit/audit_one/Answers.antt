use Rattle.std.proofs.Common.{ap, map}
use Rattle.declared_types.specs.Declarations.{table_of}
use Rattle.command_files.proofs.Comes.{comes}
use Rattle.store_commands.proofs.Audits.{says}
use Rattle.store_commands.proofs.audit.audit_one.Goals as goal

pub returns : goal.returns
returns g c =
    comes _ _ _ _ c.put_audit.result _ _
    (says c.args.history.now c.args.declared.now (map (λ t. table_of t.now) c.in_ok-types.types.items) (map (λ t. table_of t.now) c.deref-3.result.now) c.deref.result.now c.deref-2.result.now
    c.audit-outcome.result c.deref.ensures.value c.deref-2.ensures.value (ap (map (λ t. table_of t.now)) c.deref-3.ensures.value) c.in_ok-types.ensures.tables c.audit-outcome.ensures.audits)
    (λ none. absurd none) c.put_audit.ensures
