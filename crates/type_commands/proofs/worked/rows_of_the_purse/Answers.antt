use Rattle.std.proofs.Common.{refl, arith}
use Rattle.std.proofs.lemmas.Fmt.{decimal_digit}
use Rattle.type_commands.proofs.worked.rows_of_the_purse.Goals as goal

pub returns-clause-any : goal.returns-clause-any
returns-clause-any c = rw (decimal_digit 9 (omega arith)) refl

pub returns-clause-named : goal.returns-clause-named
returns-clause-named c = rw (decimal_digit 3 (omega arith)) refl

pub returns-clause-no_row : goal.returns-clause-no_row
returns-clause-no_row c = rw (decimal_digit 3 (omega arith)) refl
