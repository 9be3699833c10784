use Rattle.made_answers.proofs.Yeses.{made_is_strong}
use Rattle.made_answers.proofs.laws.made_is_strong.Goals as goal

pub returns : goal.returns
returns c = made_is_strong c.made_is_accepted.ensures
