use Rattle.history_audit.proofs.Examples.{struck-audit}
use Rattle.history_audit.proofs.worked.struck_operations_are_left_out.Goals as goal

pub returns : goal.returns
returns c = struck-audit
