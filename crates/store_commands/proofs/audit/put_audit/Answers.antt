use Rattle.std.proofs.Common.{◌∙◌}
use Rattle.command_files.proofs.Comes.{comes}
use Rattle.store_commands.proofs.Audits.{said_yes}
use Rattle.store_commands.proofs.audit.put_audit.Goals as goal

pub returns-in-Ok : goal.returns-in-Ok
returns-in-Ok g c =
    comes _ _ _ _ c.put_answer.result _ _
    (said_yes c.args.outcome.now c.in-Ok.field-0 c.deref.result.now c.in-Ok.is (c.deref.ensures.value ∙ c.in_ok-text.ensures.text))
    (λ none. absurd none) c.put_answer.ensures.comes
