use Rattle.number_types.proofs.OneLegal.{numbers_answer}
use Rattle.number_types.proofs.laws.numbers_answer.Goals as goal

pub returns : goal.returns
returns c = numbers_answer c.number_has_table.ensures
