use Rattle.history_audit.proofs.Purse.{purse-is_history, purse-audit}
use Rattle.history_audit.proofs.worked_amounts.amounts_are_replayed.Goals as goal

pub returns-clause-history : goal.returns-clause-history
returns-clause-history c = purse-is_history

pub returns-clause-audit : goal.returns-clause-audit
returns-clause-audit c = purse-audit c.number_has_table.ensures
