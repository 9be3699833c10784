use Rattle.std.proofs.Common.{refl}
use Rattle.outputs.proofs.worked.gathered_bytes_count_as_taken.Goals as goal

pub returns : goal.returns
returns c = record {
  waiting = λ g has. rw (has.passed_is, has.gathered_is) refl;
  taken = λ g has. rw (has.took_is, has.passed_is, has.gathered_is) refl;
  handed_on = λ g has. rw (has.passed_is, has.gathered_is) refl;
  untold = λ g. refl;
}
