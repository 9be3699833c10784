use Rattle.made_answers.proofs.Queues.{queues_have_lone_states}
use Rattle.made_answers.proofs.laws.queues_have_lone_states.Goals as goal

pub returns : goal.returns
returns c = queues_have_lone_states c.steps_within.ensures
