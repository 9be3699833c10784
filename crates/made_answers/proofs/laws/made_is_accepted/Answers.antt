use Rattle.made_answers.proofs.Yeses.{made_is_accepted}
use Rattle.made_answers.proofs.laws.made_is_accepted.Goals as goal

pub returns : goal.returns
returns c = made_is_accepted c.one_answer.ensures c.yes_covers.ensures c.exact_simulates.ensures
