use Rattle.std.proofs.Common.{map, sym, ap, subst, ◌∙◌}
use Rattle.declared_types.specs.Declarations.{table_of}
use Rattle.history_audit.specs.Epochs.{AuditsEpochs, told_epoch}
use Rattle.history_audit.proofs.EpochTables.{tables-shown}
use Rattle.history_audit.proofs.in_turn.audit_epochs.Goals as goal

pub returns : goal.returns
returns c =
    subst (λ tables. AuditsEpochs tables (map told_epoch c.args.histories.now) c.audit_each.result)
    (ap (map table_of) c.in_ok-own.ensures ∙ sym (tables-shown table_of c.args.types.now)) c.audit_each.ensures
