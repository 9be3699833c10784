use Rattle.made_answers.proofs.Numbers.{numbers_are_accepted}
use Rattle.made_answers.proofs.laws.numbers_are_accepted.Goals as goal

pub returns : goal.returns
returns c = numbers_are_accepted c.one_answer.ensures c.number_is_checked.ensures
