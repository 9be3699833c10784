use Rattle.made_answers.proofs.Sets.{sets_have_lone_states}
use Rattle.made_answers.proofs.laws.sets_have_lone_states.Goals as goal

pub returns : goal.returns
returns c = sets_have_lone_states c.steps_within.ensures
