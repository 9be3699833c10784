use Rattle.std.proofs.Common.{refl}
use Rattle.std.specs.Fmt.{digits}
use Rattle.work_text.proofs.worked.lines_of_kept_states.Goals as goal

pub returns-clause-two : goal.returns-clause-two
unfolding digits
returns-clause-two c = refl
