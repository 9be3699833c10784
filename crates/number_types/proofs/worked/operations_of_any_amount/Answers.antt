use Rattle.std.proofs.Common.{refl, arith}
use Rattle.std.proofs.lemmas.Fmt.{decimal_digit}
use Rattle.number_types.proofs.worked.operations_of_any_amount.Goals as goal

pub returns-clause-names : goal.returns-clause-names
returns-clause-names c = rw (decimal_digit 4 (omega arith)) refl
