use Rattle.made_answers.proofs.Families.{families_have_closed_sets}
use Rattle.made_answers.proofs.laws.families_have_closed_sets.Goals as goal

pub returns : goal.returns
returns c = families_have_closed_sets c.steps_within.ensures
