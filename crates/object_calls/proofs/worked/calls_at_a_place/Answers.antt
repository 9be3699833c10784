use Rattle.std.proofs.Common.{refl, arith}
use Rattle.object_calls.specs.Examples.{bit}
use Rattle.object_calls.proofs.Examples.{bit_few, take_first}
use Rattle.object_calls.proofs.WithoutReply.{at_place}
use Rattle.object_calls.proofs.worked.calls_at_a_place.Goals as goal

pub returns-clause-of_a_table : goal.returns-clause-of_a_table
returns-clause-of_a_table c = λ d first placed. at_place bit d 1 bit_few first placed

pub returns-clause-four : goal.returns-clause-four
returns-clause-four c = take_first 4 (omega arith) refl

pub returns-clause-five : goal.returns-clause-five
returns-clause-five c = take_first 5 (omega arith) refl
