use Rattle.object_calls.proofs.Examples.{value_call, value_half}
use Rattle.object_calls.proofs.worked.a_call_of_the_purse.Goals as goal

pub returns-clause-call : goal.returns-clause-call
returns-clause-call c = value_call

pub returns-clause-half_a_line : goal.returns-clause-half_a_line
returns-clause-half_a_line c = value_half
