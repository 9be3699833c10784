use Rattle.std.proofs.Common.{refl}
use Rattle.std.specs.Fmt.{digits}
use Rattle.work_text.proofs.worked.lines_of_a_report.Goals as goal

pub returns-clause-each : goal.returns-clause-each
unfolding digits
returns-clause-each c = λ r is. rw is refl
