use Rattle.object_calls.proofs.Examples.{bit_few, read_call, flip_call, read_missing, flip_in_read, past_all}
use Rattle.object_calls.proofs.worked.words_have_the_operations_of_a_call.Goals as goal

pub returns-clause-first : goal.returns-clause-first
returns-clause-first c = read_call.operations bit_few

pub returns-clause-second : goal.returns-clause-second
returns-clause-second c = flip_call.operations bit_few

pub returns-clause-missing : goal.returns-clause-missing
returns-clause-missing c = read_missing

pub returns-clause-foreign : goal.returns-clause-foreign
returns-clause-foreign c = flip_in_read

pub returns-clause-past_all : goal.returns-clause-past_all
returns-clause-past_all c = past_all
