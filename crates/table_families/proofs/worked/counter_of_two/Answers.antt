use Rattle.std.proofs.Common.{refl, arith}
use Rattle.std.proofs.lemmas.Fmt.{decimal_digit}
use Rattle.table_families.proofs.worked.counter_of_two.Goals as goal

pub returns-clause-ops : goal.returns-clause-ops
returns-clause-ops c = rw (decimal_digit 1 (omega arith)) refl
