use Rattle.object_calls.proofs.Examples.{bit_call_table, calls_missing}
use Rattle.object_calls.proofs.worked.calls_of_a_bit.Goals as goal

pub returns-clause-all : goal.returns-clause-all
returns-clause-all c = bit_call_table

pub returns-clause-none : goal.returns-clause-none
returns-clause-none c = calls_missing
