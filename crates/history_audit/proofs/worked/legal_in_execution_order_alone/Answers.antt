use Rattle.history_audit.proofs.Examples.{down-first}
use Rattle.history_audit.proofs.worked.legal_in_execution_order_alone.Goals as goal

pub returns-clause-first : goal.returns-clause-first
returns-clause-first c = down-first
