use Rattle.history_audit.proofs.Examples.{one_way-audit}
use Rattle.history_audit.proofs.worked.commit_order_is_audited.Goals as goal

pub returns-clause-audit : goal.returns-clause-audit
returns-clause-audit c = one_way-audit
