use Rattle.made_answers.proofs.Alone.{alone_is_strong}
use Rattle.made_answers.proofs.laws.alone_is_strong.Goals as goal

pub returns : goal.returns
returns c = alone_is_strong c.steps_within.ensures c.exact_answers.ensures c.exact_strength.ensures
