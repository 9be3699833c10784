use Rattle.std.proofs.Common.{refl, arith}
use Rattle.std.proofs.lemmas.Fmt.{decimal_digit}
use Rattle.number_types.proofs.worked.operations_of_five.Goals as goal

pub returns-clause-rows : goal.returns-clause-rows
returns-clause-rows c = rw (decimal_digit 2 (omega arith), decimal_digit 1 (omega arith), decimal_digit 5 (omega arith)) refl
