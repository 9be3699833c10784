use Rattle.made_answers.proofs.Semiqueues.{semiqueues_have_lone_states}
use Rattle.made_answers.proofs.laws.semiqueues_have_lone_states.Goals as goal

pub returns : goal.returns
returns c = semiqueues_have_lone_states c.steps_within.ensures
