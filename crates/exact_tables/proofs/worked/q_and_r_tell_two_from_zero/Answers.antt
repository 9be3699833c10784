use Rattle.exact_tables.proofs.Examples.{q_and_r}
use Rattle.exact_tables.proofs.worked.q_and_r_tell_two_from_zero.Goals as goal

pub returns : goal.returns
returns c = q_and_r
