use Rattle.std.proofs.Common.{refl}
use Rattle.std.specs.Fmt.{digits}
use Rattle.work_text.proofs.worked.lines_of_workers.Goals as goal

pub returns : goal.returns
unfolding digits
returns c = λ first second third one none two. rw (one, none, two) refl
