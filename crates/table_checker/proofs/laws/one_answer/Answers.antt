use Rattle.table_checker.proofs.Answers.{one_answer}
use Rattle.table_checker.proofs.laws.one_answer.Goals as goal

pub returns : goal.returns
returns c = one_answer c.bounds_are_numeric.ensures c.numeric_is_faultless.ensures
