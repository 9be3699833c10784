use Rattle.std.proofs.Common.{◌∙◌, ap, map}
use Rattle.declared_types.specs.Declarations.{table_of}
use Rattle.history_audit.specs.Epochs.{told_epoch}
use Rattle.command_files.proofs.Comes.{comes}
use Rattle.store_commands.proofs.SeveralAudits.{all_say_yes}
use Rattle.store_commands.proofs.several.audit_each.Goals as goal

pub returns-in-Ok : goal.returns-in-Ok
returns-in-Ok g c =
    comes _ _ _ _ c.put_answer.result _ _
    (all_say_yes c.args.first.now c.args.later.now c.args.declared.now (map (λ t. table_of t.now) c.in_ok-types.types.items) (map (λ t. table_of t.now) c.deref-2.result.now)
    (map told_epoch c.deref.result.now) c.audit_epochs-outcome.result (ap (map told_epoch) c.deref.ensures.value ∙ c.in_ok-histories.ensures)
    (ap (map (λ t. table_of t.now)) c.deref-2.ensures.value) c.in_ok-types.ensures.tables c.audit_epochs-outcome.ensures c.deref-in-Ok.result.now
    (c.deref-in-Ok.ensures.value ∙ c.in_ok-text.ensures.text) c.in-Ok.field-0 c.in-Ok.is)
    (λ none. absurd none) c.put_answer.ensures.comes
