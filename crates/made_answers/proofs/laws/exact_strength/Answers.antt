use Rattle.made_answers.proofs.Yeses.{exact_strength}
use Rattle.made_answers.proofs.laws.exact_strength.Goals as goal

pub returns : goal.returns
returns c = exact_strength c.covers_strongly_exactly.ensures
