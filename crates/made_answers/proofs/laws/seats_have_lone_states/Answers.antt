use Rattle.made_answers.proofs.Seats.{seats_have_lone_states}
use Rattle.made_answers.proofs.laws.seats_have_lone_states.Goals as goal

pub returns : goal.returns
returns c = seats_have_lone_states c.steps_within.ensures
