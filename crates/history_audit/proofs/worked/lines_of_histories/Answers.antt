use Rattle.std.proofs.Common.{refl}
use Rattle.std.specs.Fmt.{digits}
use Rattle.history_audit.proofs.worked.lines_of_histories.Goals as goal

pub returns-clause-number : goal.returns-clause-number
unfolding digits
returns-clause-number c = refl

pub returns-clause-committed : goal.returns-clause-committed
unfolding digits
returns-clause-committed c = refl

pub returns-clause-bad : goal.returns-clause-bad
unfolding digits
returns-clause-bad c = refl

pub returns-clause-illegal : goal.returns-clause-illegal
unfolding digits
returns-clause-illegal c = refl
