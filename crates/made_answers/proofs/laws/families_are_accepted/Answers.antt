use Rattle.made_answers.proofs.Families.{families_are_accepted}
use Rattle.made_answers.proofs.laws.families_are_accepted.Goals as goal

pub returns : goal.returns
returns c = families_are_accepted c.made_is_accepted.ensures c.families_have_closed_sets.ensures
