use Rattle.table_checker.proofs.Examples.{downs-fail_first}
use Rattle.table_checker.proofs.worked.counter_without_the_downs_fails_first_at_them.Goals as goal

pub returns : goal.returns
returns c = downs-fail_first
