use Rattle.made_answers.proofs.Strong.{numeric_is_strong}
use Rattle.made_answers.proofs.laws.numeric_is_strong.Goals as goal

pub returns : goal.returns
returns c = numeric_is_strong c.exact_answers.ensures c.exact_strength.ensures
