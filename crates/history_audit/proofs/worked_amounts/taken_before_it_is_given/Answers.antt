use Rattle.history_audit.proofs.Purse.{early-is_history, early-first}
use Rattle.history_audit.proofs.worked_amounts.taken_before_it_is_given.Goals as goal

pub returns-clause-history : goal.returns-clause-history
returns-clause-history c = early-is_history

pub returns-clause-first : goal.returns-clause-first
returns-clause-first c = early-first c.number_has_table.ensures
