use Rattle.made_answers.proofs.Yeses.{exact_answers}
use Rattle.made_answers.proofs.laws.exact_answers.Goals as goal

pub returns : goal.returns
returns c = exact_answers c.one_answer.ensures c.exact_simulates.ensures c.covers_exactly.ensures
